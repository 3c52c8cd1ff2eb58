-- The first fault of checks, one check or one run of checks at a time.
use Rattle.std.proofs.Common.{◌≡◌, [], ◌∷◌, ◌++◌, Option, Some, None, refl, arith}
use Rattle.machine_image.specs.declared.fault.ImageFault.{ImageFault}
use Rattle.machine_image.specs.Faults.{Checks, first_of}

-- no checks find nothing
pub first_of-nil : first_of [] ≡ None
unfolding first_of
first_of-nil = refl

-- a check that finds nothing is passed over
pub first_of-pass : (c : Option ImageFault) (cs : Checks) → c ≡ None → first_of (c ∷ cs) ≡ first_of cs
unfolding first_of
first_of-pass None cs h = refl
first_of-pass (Some e) cs h = grind arith

-- a check that finds a fault decides
pub first_of-stop : (c : Option ImageFault) (cs : Checks) (e : ImageFault) → c ≡ Some e → first_of (c ∷ cs) ≡ Some e
unfolding first_of
first_of-stop None cs e h = grind arith
first_of-stop (Some f) cs e h = h

-- the same of a run of checks
pub first_of-pass_all : (xs ys : Checks) → first_of xs ≡ None → first_of (xs ++ ys) ≡ first_of ys
unfolding first_of
first_of-pass_all [] ys h = refl
first_of-pass_all (None ∷ xs) ys h = first_of-pass_all xs ys h
first_of-pass_all (Some e ∷ xs) ys h = grind arith

pub first_of-stop_in : (xs ys : Checks) (e : ImageFault) → first_of xs ≡ Some e → first_of (xs ++ ys) ≡ Some e
unfolding first_of
first_of-stop_in [] ys e h = grind arith
first_of-stop_in (None ∷ xs) ys e h = first_of-stop_in xs ys e h
first_of-stop_in (Some f ∷ xs) ys e h = h

pub ruleset steps = (first_of-nil, first_of-pass, first_of-stop, first_of-pass_all, first_of-stop_in)
