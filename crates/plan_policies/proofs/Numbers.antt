-- The numbers below a bound, one more.
use Rattle.std.proofs.Common.{◌≡◌, ℕ, ◌+◌, Bool, true, false, List, [], ◌∷◌, ◌++◌, cond, filter, ap, ◌∙◌, sym}
use Rattle.std.proofs.lemmas.List.{append-nil}
use Rattle.std.proofs.lemmas.List.Elements.{filter-append}
use Rattle.plan_model.specs.Lists.{numbers_below}
use Rattle.plan_model.proofs.Numbers.{numbers_more}

filtered_more : (test : ℕ → Bool) (n : ℕ) → filter test (numbers_below (n + 1)) ≡ filter test (numbers_below n) ++ cond (test n) (n ∷ []) []
filtered_more test n = ap (filter test) (numbers_more n) ∙ filter-append test (numbers_below n) (n ∷ [])

-- one that passes a test stands last
pub filtered_kept : (test : ℕ → Bool) (n : ℕ) (before after : List ℕ) → test n ≡ true → before ≡ filter test (numbers_below n) → after ≡ before ++ n ∷ [] → after ≡ filter test (numbers_below (n + 1))
filtered_kept test n before after t b a = a ∙ (ap (λ ns. ns ++ n ∷ []) b ∙ (ap (λ c. filter test (numbers_below n) ++ cond c (n ∷ []) []) (sym t) ∙ sym (filtered_more test n)))

-- and another is left out
pub filtered_dropped : (test : ℕ → Bool) (n : ℕ) (before after : List ℕ) → test n ≡ false → before ≡ filter test (numbers_below n) → after ≡ before → after ≡ filter test (numbers_below (n + 1))
filtered_dropped test n before after t b a = a ∙ (b ∙ (sym (append-nil (filter test (numbers_below n))) ∙ (ap (λ c. filter test (numbers_below n) ++ cond c (n ∷ []) []) (sym t) ∙ sym (filtered_more test n))))
