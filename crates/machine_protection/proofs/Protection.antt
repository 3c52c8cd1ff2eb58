-- What decides about an address, and that the test of an access decides the fact.
use Rattle.std.proofs.Common.{◌≡◌, ℕ, zero, suc, ◌<◌, Bool, true, false, not, ◌&&◌, ◌↔◌, List, [], ◌∷◌, Option, Some, None, slice_get, refl, ap, subst, ⊎_elim, arith}
use Rattle.std.proofs.lemmas.Bool.{cases_lt}
use Rattle.machine_protection.specs.declared.region.Region.{Region}
use Rattle.machine_protection.specs.declared.region.Access.{Access}
use Rattle.machine_protection.specs.Regions.{holds}
use Rattle.machine_protection.specs.Registers.{Registers}
use Rattle.machine_protection.specs.Laws.{TheHighestDecides}
use Rattle.machine_protection.specs.Protection.{Decides, NoneHolds, is_on, has_background, default_allows, Allowed, WhileOff, ByRegion, ByBackground, or_this, deciding, decided, while_on, permits, PermitsIsAllowed}

-- what the regions say of an address, by the answer of the scan
abbrev IsScan : List Region → ℕ → Option Region → Type 0
IsScan gs a None = NoneHolds gs a
IsScan gs a (Some g) = (i : ℕ) × Decides gs a i g

scan_more : (g : Region) (gs : List Region) (a : ℕ) (b : Bool) → holds g a ≡ b → (o : Option Region) → IsScan gs a o → IsScan (g ∷ gs) a (or_this b g o)
scan_more g gs a b e (Some q) s = (suc s.0, record { stands = s.1.stands; holds_it = s.1.holds_it; highest = λ j h. later j h })
  where
    later : (j : ℕ) (h : Region) → suc s.0 < j → slice_get (g ∷ gs) j ≡ Some h → holds h a ≡ false
    later zero h lt at = absurd (omega arith)
    later (suc j) h lt at = s.1.highest j h (omega arith) at
scan_more g gs a true e None s = (0, record { stands = refl; holds_it = e; highest = λ j h. later j h })
  where
    later : (j : ℕ) (h : Region) → 0 < j → slice_get (g ∷ gs) j ≡ Some h → holds h a ≡ false
    later zero h lt at = absurd (omega arith)
    later (suc j) h lt at = s j h at
scan_more g gs a false e None s = λ j h. later j h
  where
    later : (j : ℕ) (h : Region) → slice_get (g ∷ gs) j ≡ Some h → holds h a ≡ false
    later zero h at = let same : g ≡ h = cc in subst (λ x. holds x a ≡ false) same e
    later (suc j) h at = s j h at

-- the scan's answer is what the regions say
deciding_says : (gs : List Region) (a : ℕ) → IsScan gs a (deciding gs a)
unfolding deciding
deciding_says [] a = λ j h at. cc
deciding_says (g ∷ gs) a = scan_more g gs a (holds g a) refl (deciding gs a) (deciding_says gs a)

-- at most one region decides
decides_once : (gs : List Region) (a i j : ℕ) (g h : Region) → Decides gs a i g → Decides gs a j h → g ≡ h
decides_once gs a i j g h d e = ⊎_elim below (λ le. ⊎_elim above (λ ge. same (omega arith)) (cases_lt j i)) (cases_lt i j)
  where
    below : i < j → g ≡ h
    below lt = let no : holds h a ≡ false = d.highest j h lt e.stands in let yes' = e.holds_it in cc

    above : j < i → g ≡ h
    above lt = let no : holds g a ≡ false = e.highest i g lt d.stands in let yes' = d.holds_it in cc

    same : j ≡ i → g ≡ h
    same eq = let at = d.stands in let at' = subst (λ n. slice_get gs n ≡ Some h) eq e.stands in cc

-- the scan finds a region exactly where it decides
pub deciding_some : (gs : List Region) (a : ℕ) (g : Region) → (deciding gs a ≡ Some g) ↔ ((i : ℕ) × Decides gs a i g)
deciding_some gs a g = (λ e. subst (λ o. IsScan gs a o) e (deciding_says gs a), λ d. found d (deciding gs a) (deciding_says gs a))
  where
    found : ((i : ℕ) × Decides gs a i g) → (o : Option Region) → IsScan gs a o → o ≡ Some g
    found d (Some h) s = ap Some (decides_once gs a s.0 d.0 h g s.1 d.1)
    found d None s = let no = s d.0 g d.1.stands in let yes' = d.1.holds_it in cc

-- and none exactly where none holds the address
pub deciding_none : (gs : List Region) (a : ℕ) → (deciding gs a ≡ None) ↔ NoneHolds gs a
deciding_none gs a = (λ e. subst (λ o. IsScan gs a o) e (deciding_says gs a), λ n. found n (deciding gs a) (deciding_says gs a))
  where
    found : NoneHolds gs a → (o : Option Region) → IsScan gs a o → o ≡ None
    found n None s = refl
    found n (Some h) s = let no = n s.0 h s.1.stands in let yes' = s.1.holds_it in cc

pub the_highest_decides : TheHighestDecides
the_highest_decides gs a = record { some = λ g. deciding_some gs a g; none = deciding_none gs a }

-- an access is allowed where the test answers yes
allowed_of_test : (m : Registers) (u : Bool) (kind : Access) (a : ℕ) (on : Bool) → is_on m ≡ on → (o : Option Region) → deciding m.regions a ≡ o → while_on on (default_allows kind a) (decided o (has_background m) u kind a) ≡ true → Allowed m u kind a
allowed_of_test m u kind a false is_off o e t = WhileOff is_off t
allowed_of_test m u kind a true on (Some g) e t = let d = (deciding_some m.regions a g).0 e in ByRegion d.0 g on d.1 t
allowed_of_test m u kind a true on None e t = by_background u (has_background m) refl refl t
  where
    none : NoneHolds m.regions a
    none = (deciding_none m.regions a).0 e

    by_background : (v b : Bool) → u ≡ v → has_background m ≡ b → (not v && (b && default_allows kind a)) ≡ true → Allowed m u kind a
    by_background true b eu eb s = cc
    by_background false true eu eb s = ByBackground on none eu eb s
    by_background false false eu eb s = cc

-- and the test answers yes where an access is allowed
test_of_allowed : (m : Registers) (u : Bool) (kind : Access) (a : ℕ) → Allowed m u kind a → permits m u kind a ≡ true
unfolding permits
test_of_allowed m u kind a (WhileOff is_off d) = rw is_off d
test_of_allowed m u kind a (ByRegion i g on d al) = let e = (deciding_some m.regions a g).1 (i, d) in rw (on, e) al
test_of_allowed m u kind a (ByBackground on n eu eb d) = let e = (deciding_none m.regions a).1 n in rw (on, e, eu, eb) d

-- the test decides the fact
pub permits_is_allowed : PermitsIsAllowed
unfolding permits
permits_is_allowed m u kind a = (λ t. allowed_of_test m u kind a (is_on m) refl (deciding m.regions a) refl t, λ w. test_of_allowed m u kind a w)
