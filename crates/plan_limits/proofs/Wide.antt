-- The first crossing site with too many targets, one site after another.
use Rattle.std.proofs.Common.{◌≡◌, ℕ, zero, suc, ◌+◌, ◌<◌, Bool, true, false, cond, List, [], ◌∷◌, ◌++◌, length, get_or, take, Some, None, refl, sym, ap, ◌∙◌, arith}
use Rattle.std.specs.Prelude.{filter, find}
use Rattle.std.specs.Option.{option_or}
use Rattle.std.proofs.lemmas.List.Elements.{filter_more}
use Rattle.std.proofs.lemmas.List.Folds.{find-append}

-- none before it, and the next one passes both tests
pub wide_here : {X : Type 0} (p q : X → Bool) (xs : List X) (i : ℕ) (d : X) → i < length xs → find p (filter q (take i xs)) ≡ None → q (get_or xs i d) ≡ true → p (get_or xs i d) ≡ true
    → find p (filter q xs) ≡ Some (get_or xs i d)
wide_here p q [] i d l n e f = absurd (omega arith)
wide_here p q (x ∷ xs) zero d l n e f = ap (λ b. find p (cond b (x ∷ filter q xs) (filter q xs))) e ∙ ap (λ b. cond b (Some x) (find p (filter q xs))) f
wide_here {X} p q (x ∷ xs) (suc i) d l n e f = by (q x) (p x) refl n (λ h. wide_here p q xs i d (omega arith) h e f)
  where
    by : (a b : Bool) → p x ≡ b → find p (cond a (x ∷ filter q (take i xs)) (filter q (take i xs))) ≡ None → (find p (filter q (take i xs)) ≡ None → find p (filter q xs) ≡ Some (get_or xs i d))
        → find p (cond a (x ∷ filter q xs) (filter q xs)) ≡ Some (get_or xs i d)
    by false b t h ih = ih h
    by true true t h ih = let s : Some x ≡ None = sym (ap (λ b. cond b (Some x) (find p (filter q (take i xs)))) t) ∙ h in cc
    by true false t h ih =
        ap (λ b. cond b (Some x) (find p (filter q xs))) t ∙ ih (sym (ap (λ b. cond b (Some x) (find p (filter q (take i xs)))) t) ∙ h)

-- and it doesn't stand in the list
pub not_there : {X : Type 0} (p q : X → Bool) (xs : List X) (i : ℕ) (d : X) → i < length xs → find p (filter q (take i xs)) ≡ None → q (get_or xs i d) ≡ false → find p (filter q (take (i + 1) xs)) ≡ None
not_there p q xs i d l n e =
    ap (find p) (filter_more q xs i d l ∙ ap (λ b. filter q (take i xs) ++ cond b (get_or xs i d ∷ []) []) e)
    ∙ (find-append p (filter q (take i xs)) [] ∙ ap (λ o. option_or o None) n)

-- or is none of those that are looked for
pub not_wide : {X : Type 0} (p q : X → Bool) (xs : List X) (i : ℕ) (d : X) → i < length xs → find p (filter q (take i xs)) ≡ None → p (get_or xs i d) ≡ false → find p (filter q (take (i + 1) xs)) ≡ None
not_wide {X} p q xs i d l n e = ap (find p) (filter_more q xs i d l) ∙ (find-append p (filter q (take i xs)) _ ∙ (ap (λ o. option_or o (find p (cond (q (get_or xs i d)) (get_or xs i d ∷ []) []))) n ∙ by (q (get_or xs i d))))
  where
    by : (b : Bool) → find p (cond b (get_or xs i d ∷ []) []) ≡ None
    by true = ap (λ c. cond c (Some (get_or xs i d)) None) e
    by false = refl
