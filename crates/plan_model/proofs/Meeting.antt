-- A range that meets none of the denied ones has no address of theirs.
use Rattle.std.proofs.Common.{◌≡◌, ℕ, ◌+◌, ◌<◌, ◌≤◌, Bool, true, false, ◌&&◌, List, [], ◌∷◌, None, lt-ltb, arith, ap₂, ◌∙◌, sym}
use Rattle.std.specs.List.{position}
use Rattle.base_laws.specs.Lists.{Each}
use Rattle.plan_model.specs.declared.denied_ranges.Denied.{Denied}
use Rattle.plan_model.specs.Denied.{InDenied, meets, first_met}

-- an address of both makes the ranges meet
met : (d : Denied) (base size a : ℕ) → base ≤ a → a < base + size → InDenied d a → meets base size d ≡ true
met d base size a lo hi x =
    let l = x.0 in
    let h = x.1 in
    ap₂ (λ (p q : Bool). p && q) (lt-ltb base (d.base + d.size) (omega (arith, lo, h))) (lt-ltb d.base (base + size) (omega (arith, l, hi)))

-- a test that passes for no item passes neither for the first nor for one behind it
fails_first : {X : Type 0} (p : X → Bool) (x : X) (xs : List X) → position p (x ∷ xs) ≡ None → p x ≡ false
fails_first p x xs e = grind (arith)

fails_behind : {X : Type 0} (p : X → Bool) (x : X) (xs : List X) → position p (x ∷ xs) ≡ None → position p xs ≡ None
fails_behind p x xs e = grind (arith)

pub none_in : (ds : List Denied) (base size a : ℕ) → first_met ds base size ≡ None → base ≤ a → a < base + size → Each (λ d. InDenied d a → ⊥) ds
none_in [] base size a e lo hi = tt
none_in (d ∷ ds) base size a e lo hi = (
  (λ x. absurd (let wrong : true ≡ false = sym (met d base size a lo hi x) ∙ fails_first (meets base size) d ds e in cc)),
  none_in ds base size a (fails_behind (meets base size) d ds e) lo hi,
)
