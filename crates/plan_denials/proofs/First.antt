-- The first that is there of what each item of a list gives.
use Rattle.std.proofs.Common.{◌≡◌, ℕ, zero, suc, ◌+◌, ◌<◌, List, [], ◌∷◌, length, map, get_or, Option, Some, None, refl, sym, ap, ◌∙◌, arith}
use Rattle.std.proofs.lemmas.List.FromFn.{length-range_with_len, get_or-range_with_len}
use Rattle.plan_model.specs.Choices.{first_some}
use Rattle.plan_model.specs.Lists.{numbers_below}

pub past : {Y : Type 0} (o : Option Y) (os : List (Option Y)) → o ≡ None → first_some (o ∷ os) ≡ first_some os
past None os e = refl
past (Some y) os e = cc

pub taken : {Y : Type 0} (o : Option Y) (os : List (Option Y)) (y : Y) → o ≡ Some y → first_some (o ∷ os) ≡ Some y
taken None os y e = cc
taken (Some z) os y e = e

-- no item gives any
pub none_of : {X Y : Type 0} (g : X → Option Y) (xs : List X) (d : X) → ((k : ℕ) → k < length xs → g (get_or xs k d) ≡ None) → None ≡ first_some (map g xs)
none_of g [] d h = refl
none_of g (x ∷ xs) d h = none_of g xs d (λ k l. h (suc k) (omega (arith, l))) ∙ sym (past (g x) (map g xs) (h 0 (omega arith)))

-- the item at a place gives one, and no item before it
pub here_of : {X Y : Type 0} (g : X → Option Y) (xs : List X) (i : ℕ) (d : X) (y : Y) → i < length xs → ((k : ℕ) → k < i → g (get_or xs k d) ≡ None) → g (get_or xs i d) ≡ Some y
    → Some y ≡ first_some (map g xs)
here_of g [] i d y l h e = absurd (omega (arith, l))
here_of g (x ∷ xs) zero d y l h e = sym (taken (g x) (map g xs) y e)
here_of g (x ∷ xs) (suc i) d y l h e =
    here_of g xs i d y (omega (arith, l)) (λ k m. h (suc k) (omega (arith, m))) e ∙ sym (past (g x) (map g xs) (h 0 (omega arith)))

-- the same of the numbers below a bound
at_number : (n k : ℕ) → k < n → get_or (numbers_below n) k 0 ≡ k
at_number n k l = get_or-range_with_len 0 n k 0 l ∙ (let e : 0 + k ≡ k = omega arith in e)

pub none_below : {Y : Type 0} (g : ℕ → Option Y) (n : ℕ) → ((k : ℕ) → k < n → g k ≡ None) → None ≡ first_some (map g (numbers_below n))
none_below g n h =
    let size = length-range_with_len 0 n in
    none_of g (numbers_below n) 0 (λ k l. let m : k < n = omega (arith, l, size) in ap g (at_number n k m) ∙ h k m)

pub here_below : {Y : Type 0} (g : ℕ → Option Y) (n i : ℕ) (y : Y) → i < n → ((k : ℕ) → k < i → g k ≡ None) → Some y ≡ g i → Some y ≡ first_some (map g (numbers_below n))
here_below g n i y l h e =
    let size = length-range_with_len 0 n in
    here_of g (numbers_below n) i 0 y (omega (arith, l, size)) (λ k m. let b : k < n = omega (arith, l, m) in ap g (at_number n k b) ∙ h k m) (ap g (at_number n i l) ∙ sym e)

-- and where there is none, each gives none
pub each_none : {X Y : Type 0} (g : X → Option Y) (xs : List X) (i : ℕ) (d : X) → first_some (map g xs) ≡ None → i < length xs → g (get_or xs i d) ≡ None
each_none g [] i d e l = absurd (omega (arith, l))
each_none g (x ∷ xs) zero d e l = first (g x) (map g xs) e
  where
    first : {Y : Type 0} (o : Option Y) (os : List (Option Y)) → first_some (o ∷ os) ≡ None → o ≡ None
    first None os e = refl
    first (Some y) os e = cc
each_none g (x ∷ xs) (suc i) d e l = each_none g xs i d (behind (g x) (map g xs) e) (omega (arith, l))
  where
    behind : {Y : Type 0} (o : Option Y) (os : List (Option Y)) → first_some (o ∷ os) ≡ None → first_some os ≡ None
    behind None os e = e
    behind (Some y) os e = cc

pub below_none : {Y : Type 0} (g : ℕ → Option Y) (n i : ℕ) → first_some (map g (numbers_below n)) ≡ None → i < n → g i ≡ None
below_none g n i e l =
    let size = length-range_with_len 0 n in
    sym (ap g (at_number n i l)) ∙ each_none g (numbers_below n) i 0 e (omega (arith, l, size))
