-- Sums of the numbers of a list that pass a test.
use Rattle.std.proofs.Common.{◌≡◌, ℕ, zero, suc, ◌+◌, ◌<◌, ◌≤◌, Bool, true, false, cond, List, [], ◌∷◌, length, get_or, take, sum, nat_lt, nat_eq, refl, sym, ap, ◌∙◌, ltb-true, eq-eqb, eqb-true, arith}
use Rattle.std.specs.Prelude.{filter}
use Rattle.std.proofs.lemmas.List.Sums.{sum_by_more_le}
use Rattle.plan_model.specs.FlashPlacement.{bytes_before}
use Rattle.base_laws.proofs.Lists.{sum_first as first_added}

-- two tests that no number passes together, where each number that passes one passes a third
pub two_in_one : (p q r : ℕ → Bool) → ((x : ℕ) → p x ≡ true → q x ≡ true → ⊥) → ((x : ℕ) → p x ≡ true → r x ≡ true) → ((x : ℕ) → q x ≡ true → r x ≡ true) → (xs : List ℕ)
    → sum (filter p xs) + sum (filter q xs) ≤ sum (filter r xs)
two_in_one p q r apart left right [] = omega arith
two_in_one p q r apart left right (x ∷ xs) = by (p x) (q x) (r x) refl refl refl (two_in_one p q r apart left right xs)
  where
    by : (a b c : Bool) → p x ≡ a → q x ≡ b → r x ≡ c → sum (filter p xs) + sum (filter q xs) ≤ sum (filter r xs)
        → sum (cond a (x ∷ filter p xs) (filter p xs)) + sum (cond b (x ∷ filter q xs) (filter q xs)) ≤ sum (cond c (x ∷ filter r xs) (filter r xs))
    by true true c e f g ih = absurd (apart x e f)
    by true false true e f g ih = let m = first_added x (filter p xs) in let n = first_added x (filter r xs) in omega arith
    by true false false e f g ih = let h : false ≡ true = sym g ∙ left x e in cc
    by false true true e f g ih = let m = first_added x (filter q xs) in let n = first_added x (filter r xs) in omega arith
    by false true false e f g ih = let h : false ≡ true = sym g ∙ right x f in cc
    by false false true e f g ih = let n = first_added x (filter r xs) in omega arith
    by false false false e f g ih = ih

-- those before one that passes, and it
pub with_next : (p : ℕ → Bool) (xs : List ℕ) (k : ℕ) → k < length xs → p (get_or xs k 0) ≡ true → sum (filter p (take k xs)) + get_or xs k 0 ≤ sum (filter p xs)
with_next p [] k l e = absurd (omega arith)
with_next p (x ∷ xs) zero l e =
    let h : sum (filter p (x ∷ xs)) ≡ x + sum (filter p xs) = ap (λ b. sum (cond b (x ∷ filter p xs) (filter p xs))) e ∙ first_added x (filter p xs) in
    omega (arith, h)
with_next p (x ∷ xs) (suc k) l e = by (p x) (with_next p xs k (omega arith) e)
  where
    by : (b : Bool) → sum (filter p (take k xs)) + get_or xs k 0 ≤ sum (filter p xs) → sum (cond b (x ∷ filter p (take k xs)) (filter p (take k xs))) + get_or xs k 0 ≤ sum (cond b (x ∷ filter p xs) (filter p xs))
    by true ih = let m = first_added x (filter p (take k xs)) in let n = first_added x (filter p xs) in omega arith
    by false ih = ih

all_pass : (xs : List ℕ) → sum (filter (λ x. true) xs) ≡ sum xs
all_pass [] = refl
all_pass (x ∷ xs) = first_added x (filter (λ y. true) xs) ∙ (ap (λ n. x + n) (all_pass xs) ∙ sym (first_added x xs))

-- no more than all
pub part_is_less : (p : ℕ → Bool) (xs : List ℕ) → sum (filter p xs) ≤ sum xs
part_is_less p xs =
    let nothing : ℕ → Bool = λ x. false in
    let le = two_in_one p nothing (λ x. true) (λ x a b. cc) (λ x a. refl) (λ x a. refl) xs in
    let all = all_pass xs in
    omega arith

-- two numbers are not both greater and equal
pub not_both : (v x : ℕ) → nat_lt v x ≡ true → nat_eq x v ≡ true → ⊥
not_both v x e f = let l = ltb-true v x e in let s = eqb-true x v f in omega arith

-- a block and all before it are no more than all
pub before_fits : (xs : List ℕ) (k : ℕ) → k < length xs → bytes_before xs k + get_or xs k 0 ≤ sum xs
unfolding bytes_before
before_fits xs k l =
    let v = get_or xs k 0 in
    let both = two_in_one (λ s. nat_lt v s) (λ s. nat_eq s v) (λ s. true) (not_both v) (λ x a. refl) (λ x a. refl) xs in
    let own = with_next (λ s. nat_eq s v) xs k l (eq-eqb v v refl) in
    let all = all_pass xs in
    omega arith

-- a block and all before it, by what they are
pub room_before : (xs : List ℕ) (k : ℕ) → k < length xs → sum (filter (λ s. nat_lt (get_or xs k 0) s) xs) + sum (filter (λ s. nat_eq s (get_or xs k 0)) (take k xs)) + get_or xs k 0 ≤ sum xs
unfolding bytes_before
room_before xs k l = before_fits xs k l

-- the next number may be added to those before it that pass
pub room_for_next : (p : ℕ → Bool) (xs : List ℕ) (i : ℕ) → i < length xs → sum (filter p (take i xs)) + get_or xs i 0 ≤ sum xs
room_for_next p xs i l =
    let some = part_is_less p (take i xs) in
    let next = sum_by_more_le (λ (n : ℕ). n) xs i 0 l in
    omega arith
