-- Checks that all pass.
use Rattle.std.proofs.Common.{◌≡◌, Bool, true, false, [], ◌∷◌, ◌++◌, Some, None, refl}
use Rattle.ir_model.specs.declared.check.CheckKind.{CheckKind}
use Rattle.ir_model.specs.declared.check.CheckPlace.{CheckPlace}
use Rattle.ir_model.specs.Typing.{Checks, check, first_failing}

pub record Pass (cs : Checks) : Type 0 where
  pub none : first_failing cs ≡ None

append_left : (xs ys : Checks) → first_failing (xs ++ ys) ≡ None → first_failing xs ≡ None
append_left [] ys h = refl
append_left (None ∷ xs) ys h = append_left xs ys h
append_left (Some e ∷ xs) ys h = cc

-- the second of joined lists of checks, where all of both pass
pub append_right : (xs ys : Checks) → first_failing (xs ++ ys) ≡ None → first_failing ys ≡ None
append_right [] ys h = h
append_right (None ∷ xs) ys h = append_right xs ys h
append_right (Some e ∷ xs) ys h = cc

pub left : (xs ys : Checks) → Pass (xs ++ ys) → Pass xs
left xs ys h = record { none = append_left xs ys h.none }

pub right : (xs ys : Checks) → Pass (xs ++ ys) → Pass ys
right xs ys h = record { none = append_right xs ys h.none }

check_by : (b : Bool) (k : CheckKind) (p : CheckPlace) (cs : Checks) → first_failing (check b k p ∷ cs) ≡ None → (b ≡ true) × (first_failing cs ≡ None)
check_by true k p cs h = (refl, h)
check_by false k p cs h = absurd (let e : Some (record { kind = k; place = p }) ≡ None = h in cc)

pub holds : (b : Bool) (k : CheckKind) (p : CheckPlace) (cs : Checks) → Pass (check b k p ∷ cs) → b ≡ true
holds b k p cs h = (check_by b k p cs h.none).0

pub behind : (b : Bool) (k : CheckKind) (p : CheckPlace) (cs : Checks) → Pass (check b k p ∷ cs) → Pass cs
behind b k p cs h = record { none = (check_by b k p cs h.none).1 }
