use Rattle.std.proofs.Common.{◌≡◌, ℕ, ◌+◌, Bool, true, false, List, [], ◌∷◌, ◌++◌, cond, filter, map, ap, ◌∙◌, sym, arith, ◌<◌}
use Rattle.std.proofs.lemmas.List.{map-id, append-nil, map-append}
use Rattle.std.proofs.lemmas.List.FromFn.{map-range_with_len_more, length-range_with_len, get_or-range_with_len}
use Rattle.std.proofs.lemmas.List.Elements.{filter-append}
use Rattle.plan_model.specs.Lists.{numbers_below}
use Rattle.std.specs.List.{All, flat_map, range_with_len, list_any}
use Rattle.std.proofs.lemmas.List.Concat.{flat_map-append}
use Rattle.std.proofs.lemmas.List.Folds.{list_any_at}

pub numbers_more : (n : ℕ) → numbers_below (n + 1) ≡ numbers_below n ++ n ∷ []
numbers_more n = sym (map-id (numbers_below (n + 1))) ∙ (map-range_with_len_more (λ (k : ℕ). k) 0 n n (omega arith) ∙ ap (λ ns. ns ++ n ∷ []) (map-id (numbers_below n)))

pub passed_more : {X : Type 0} (f : ℕ → X) (p : ℕ → Bool) (k : ℕ) → map f (filter p (numbers_below (k + 1))) ≡ map f (filter p (numbers_below k)) ++ map f (cond (p k) (k ∷ []) [])
passed_more f p k = ap (λ ns. map f (filter p ns)) (numbers_more k) ∙ ap (map f) (filter-append p (numbers_below k) (k ∷ [])) ∙ map-append f (filter p (numbers_below k)) (cond (p k) (k ∷ []) [])

-- what is made of each
pub mapped_more : {X : Type 0} (f : ℕ → X) (n : ℕ) (before after : List X) (x : X) → before ≡ map f (numbers_below n) → x ≡ f n → after ≡ before ++ x ∷ [] → after ≡ map f (numbers_below (n + 1))
mapped_more f n before after x b e a = a ∙ (ap (λ ns. ns ++ x ∷ []) b ∙ (ap (λ y. map f (numbers_below n) ++ y ∷ []) e ∙ sym (map-range_with_len_more f 0 n n (omega arith))))

pub flat_numbers : {Y : Type 0} (g : ℕ → List Y) (n : ℕ) → flat_map g (range_with_len 0 n) ++ g n ≡ flat_map g (range_with_len 0 (n + 1))
flat_numbers g n =
    sym (ap (flat_map g) (numbers_more n) ∙ (flat_map-append g (range_with_len 0 n) (n ∷ []) ∙ ap (λ l. flat_map g (range_with_len 0 n) ++ l) (append-nil (g n))))

-- one that passes is enough
pub one_passes : (test : ℕ → Bool) (i n : ℕ) → i < n → test i ≡ true → list_any test (numbers_below n) ≡ true
one_passes test i n l e =
    let there = length-range_with_len 0 n in
    let place : 0 + i ≡ i = omega arith in
    list_any_at test (numbers_below n) i 0 (omega arith) (ap test (get_or-range_with_len 0 n i 0 l ∙ place) ∙ e)

-- the same of those numbers that pass a test: one that does
pub kept_more : {X : Type 0} (f : ℕ → X) (p : ℕ → Bool) (k : ℕ) (old new : List X) (x : X) → p k ≡ true → old ≡ map f (filter p (numbers_below k)) → x ≡ f k → new ≡ old ++ x ∷ [] →
    new ≡ map f (filter p (numbers_below (k + 1)))
kept_more f p k old new x t h e n =
    n ∙ ap (λ ys. ys ++ x ∷ []) h ∙ ap (λ y. map f (filter p (numbers_below k)) ++ y ∷ []) e
    ∙ sym (passed_more f p k ∙ ap (λ b. map f (filter p (numbers_below k)) ++ map f (cond b (k ∷ []) [])) t)

-- and one that does not
pub dropped_more : {X : Type 0} (f : ℕ → X) (p : ℕ → Bool) (k : ℕ) (old new : List X) → p k ≡ false → old ≡ map f (filter p (numbers_below k)) → new ≡ old →
    new ≡ map f (filter p (numbers_below (k + 1)))
dropped_more f p k old new t h n =
    n ∙ h ∙ sym (passed_more f p k ∙ ap (λ b. map f (filter p (numbers_below k)) ++ map f (cond b (k ∷ []) [])) t ∙ append-nil (map f (filter p (numbers_below k))))

-- each is below their count
pub all_below : (n : ℕ) → All (λ k. k < n) (numbers_below n)
all_below n k d l =
    let count = length-range_with_len 0 n in
    let e = get_or-range_with_len 0 n k d (omega arith) in
    omega arith
