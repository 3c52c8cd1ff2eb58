-- The functions of a compartment: each has room in its code, and what holds of the pieces of each holds of all together.
use Rattle.std.proofs.Common.{◌≡◌, ℕ, zero, suc, ◌+◌, ◌<◌, ◌≤◌, Bool, true, false, List, [], ◌∷◌, ◌++◌, length, take, get_or, flat_map, nat_eq, if◌then◌else◌, refl, subst, eq-eqb, arith}
use Rattle.ir_model.specs.Resolved.{Program}
use Rattle.code_model.specs.CompartmentCode.{CodeGroups, compartment_of, members_from, before, filled_size, size_of, total_size, compartment_size}

-- ---- lists of pieces

module _ {A : Type 0} (Good : List A → Type 0) (none : Good []) (both : (xs ys : List A) → Good xs → Good ys → Good (xs ++ ys)) (pieces : ℕ → List A) where
  pub all_good : (f c : ℕ) (ds : List ℕ) → ((h : ℕ) → h < f + length ds → Good (pieces h)) → Good (flat_map pieces (members_from f ds c))
  all_good f c [] h = none
  all_good f c (d ∷ ds) h = by (nat_eq d c) (all_good (suc f) c ds (λ k l. h k (omega (arith, l))))
    where
      by : (t : Bool) → Good (flat_map pieces (members_from (suc f) ds c)) → Good (flat_map pieces (if t then f ∷ members_from (suc f) ds c else members_from (suc f) ds c))
      by true r = both (pieces f) (flat_map pieces (members_from (suc f) ds c)) (h f (omega arith)) r
      by false r = r

-- ---- room

module _ (p : Program) (g : CodeGroups) where
  one_more : (t : Bool) (f z : ℕ) (xs ys : List ℕ) → total_size p g xs + z ≤ total_size p g ys → total_size p g (if t then f ∷ xs else xs) + z ≤ total_size p g (if t then f ∷ ys else ys)
  one_more true f z xs ys h = omega (arith, h)
  one_more false f z xs ys h = h

  first_one : (t : Bool) (f : ℕ) (xs : List ℕ) → t ≡ true → filled_size (size_of p g f) ≤ total_size p g (if t then f ∷ xs else xs)
  first_one true f xs e = omega arith
  first_one false f xs e = cc

  own_room : (f k h c : ℕ) (ds : List ℕ) → k < length ds → h ≡ f + k → get_or ds k 0 ≡ c → total_size p g (members_from f (take k ds) c) + filled_size (size_of p g h) ≤ total_size p g (members_from f ds c)
  own_room f k h c [] l e m = absurd (omega (arith, l))
  own_room f zero h c (d ∷ ds) l e m =
      let same : f ≡ h = omega (arith, e) in
      let r = first_one (nat_eq d c) f (members_from (suc f) ds c) (eq-eqb d c m) in
      subst (λ x. 0 + filled_size (size_of p g x) ≤ total_size p g (members_from f (d ∷ ds) c)) same (omega (arith, r))
  own_room f (suc k) h c (d ∷ ds) l e m =
      one_more (nat_eq d c) f (filled_size (size_of p g h)) (members_from (suc f) (take k ds) c) (members_from (suc f) ds c) (own_room (suc f) k h c ds (omega (arith, l)) (omega (arith, e)) m)

  -- a function behind those before it
  pub function_room : (f : ℕ) → f < length g.compartments → total_size p g (before p g f) + filled_size (size_of p g f) ≤ compartment_size p g (compartment_of p g f)
  function_room f l = own_room 0 f f (compartment_of p g f) g.compartments l (omega arith) refl
