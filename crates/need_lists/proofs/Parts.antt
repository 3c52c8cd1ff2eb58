-- What stands in lists that are joined, and among numbers.
use Rattle.std.proofs.Common.{◌≡◌, ℕ, zero, suc, ◌<◌, List, [], ◌∷◌, ◌++◌, length, get_or, refl, sym, subst, ◌∙◌, inl, inr, arith, zero-add}
use Rattle.std.specs.Prelude.{◌⊎◌, Contains}
use Rattle.std.specs.List.{flat_map, range_with_len}
use Rattle.std.proofs.lemmas.List.Elements.{Contains-append_left, Contains-append_right, Contains-append_cases}
use Rattle.std.proofs.lemmas.List.FromFn.{length-range_with_len, get_or-range_with_len}

pub head : {X : Type 0} (x : X) (xs : List X) → Contains (x ∷ xs) x
head x xs = (0, omega arith, refl)

pub tail : {X : Type 0} (x y : X) (xs : List X) → Contains xs y → Contains (x ∷ xs) y
tail x y xs h = let l = h.1 in (suc h.0, omega arith, h.2)

cases_by : {X : Type 0} (x y : X) (xs : List X) (k : ℕ) → k < length (x ∷ xs) → get_or (x ∷ xs) k y ≡ y → (x ≡ y) ⊎ Contains xs y
cases_by x y xs zero l e = inl e
cases_by x y xs (suc k) l e = inr (k, omega arith, e)

pub cases : {X : Type 0} (x y : X) (xs : List X) → Contains (x ∷ xs) y → (x ≡ y) ⊎ Contains xs y
cases x y xs h = cases_by x y xs h.0 h.1 h.2

pub in_none : {X : Type 0} (y : X) → Contains [] y → ⊥
in_none y h = let l = h.1 in omega arith

pub joined : {X Y : Type 0} (f : X → List Y) (x : X) (y : Y) (xs : List X) → Contains xs x → Contains (f x) y → Contains (flat_map f xs) y
joined f x y [] h i = absurd (in_none x h)
joined {X} {Y} f x y (z ∷ zs) h i = by (cases z x zs h) (λ r. joined f x y zs r i)
  where
    by : (z ≡ x) ⊎ Contains zs x → (Contains zs x → Contains (flat_map f zs) y) → Contains (f z ++ flat_map f zs) y
    by (inl e) ih = Contains-append_left (f z) (flat_map f zs) y (subst (λ (w : X). Contains (f w) y) (sym e) i)
    by (inr r) ih = Contains-append_right (f z) (flat_map f zs) y (ih r)

-- the part in which an item stands
pub record IsIn {X Y : Type 0} (f : X → List Y) (xs : List X) (y : Y) : Type 0 where
  pub part : X
  pub listed : Contains xs part
  pub inside : Contains (f part) y

pub from_joined : {X Y : Type 0} (f : X → List Y) (y : Y) (xs : List X) → Contains (flat_map f xs) y → IsIn f xs y
from_joined f y [] h = absurd (in_none y h)
from_joined {X} {Y} f y (z ∷ zs) h = by (Contains-append_cases (f z) (flat_map f zs) y h) (λ r. from_joined f y zs r)
  where
    by : Contains (f z) y ⊎ Contains (flat_map f zs) y → (Contains (flat_map f zs) y → IsIn f zs y) → IsIn f (z ∷ zs) y
    by (inl i) ih = record { part = z; listed = head z zs; inside = i }
    by (inr r) ih = let t = ih r in record { part = t.part; listed = tail z t.part zs t.listed; inside = t.inside }

pub number_in : (k n : ℕ) → k < n → Contains (range_with_len 0 n) k
number_in k n h = (k, subst (λ (m : ℕ). k < m) (sym (length-range_with_len 0 n)) h, get_or-range_with_len 0 n k k h ∙ zero-add k)

pub number_below : (k n : ℕ) → Contains (range_with_len 0 n) k → k < n
number_below k n h =
    let l : h.0 < n = subst (λ (m : ℕ). h.0 < m) (length-range_with_len 0 n) h.1 in
    let e : k ≡ h.0 = sym h.2 ∙ (get_or-range_with_len 0 n h.0 k l ∙ zero-add h.0) in
    omega arith
