-- Functions of a compartment stand one behind the other in its code.
use Rattle.std.proofs.Common.{◌≡◌, ℕ, zero, suc, ◌+◌, ◌<◌, ◌≤◌, Bool, true, false, List, [], ◌∷◌, ◌++◌, length, take, get_or, nat_eq, if◌then◌else◌, refl, ap, ◌∙◌, eq-eqb, lit<, arith}
use Rattle.ir_model.specs.Resolved.{Program, NumberedFunc, func_at}
use Rattle.ir_model.proofs.Counting.{rounded_at_least}
use Rattle.code_model.specs.FrameShape.{local_starts}
use Rattle.code_model.specs.Places.{lends_among}
use Rattle.code_model.specs.Sizes.{entry_size}
use Rattle.code_model.specs.CompartmentCode.{CodeGroups, members_from, filled_size, before, lends_of, size_of, total_size, compartment_size}
use Rattle.code_model.proofs.Compartments.{total_append}

-- a function stands behind those before it, and others behind it
members_split : (k f j : ℕ) (cs : List ℕ) (c : ℕ) → j ≡ k + f → f < length cs → get_or cs f 0 ≡ c → (rest : List ℕ) × (members_from k cs c ≡ members_from k (take f cs) c ++ j ∷ rest)
members_split k f j [] c q lt e = absurd (omega (arith, lt))
members_split k zero j (d ∷ ds) c q lt e =
    let rest : List ℕ = members_from (suc k) ds c in
    let same : k ≡ j = omega (arith, q) in
    (rest, ap (λ b. if b then k ∷ rest else rest) (eq-eqb d c e) ∙ ap (λ x. x ∷ rest) same)
members_split k (suc f) j (d ∷ ds) c q lt e = by (nat_eq d c) (members_split (suc k) f j ds c (omega (arith, q)) (omega (arith, lt)) e)
  where
    by : (b : Bool) → (rest : List ℕ) × (members_from (suc k) ds c ≡ members_from (suc k) (take f ds) c ++ j ∷ rest)
        → (rest : List ℕ) × ((if b then k ∷ members_from (suc k) ds c else members_from (suc k) ds c) ≡ (if b then k ∷ members_from (suc k) (take f ds) c else members_from (suc k) (take f ds) c) ++ j ∷ rest)
    by true behind = (behind.0, ap (λ x. k ∷ x) behind.1)
    by false behind = behind

-- the code of an entry begins with a PUSH
entry_least : (g : NumberedFunc) (n : ℕ) → 2 ≤ entry_size g n
unfolding entry_size
entry_least g n = omega arith

module _ (p : Program) (groups : CodeGroups) where
  -- a function has code
  size_least : (f : ℕ) → 2 ≤ size_of p groups f
  size_least f =
      let lent : ℕ = length (lends_among (local_starts (func_at p f)) (lends_of p groups f)) in
      let least = entry_least (func_at p f) lent in
      omega (arith, least)

  -- and stands in that of its compartment
  pub code_inside : (f c : ℕ) → f < length groups.compartments → get_or groups.compartments f 0 ≡ c → total_size p groups (before p groups f) + 2 ≤ compartment_size p groups c
  code_inside f c lt e =
      let s = members_split 0 f f groups.compartments (get_or groups.compartments f 0) (omega arith) lt refl in
      let a = total_append p groups (before p groups f) (f ∷ s.0) in
      let z = rounded_at_least (size_of p groups f) 4 (lit< tt) in
      let least = size_least f in
      let whole : compartment_size p groups (get_or groups.compartments f 0) ≡ total_size p groups (before p groups f) + (filled_size (size_of p groups f) + total_size p groups s.0) =
      ap (total_size p groups) s.1 ∙ a in
      let same = ap (compartment_size p groups) e in
      omega (arith, z, least, whole, same)
