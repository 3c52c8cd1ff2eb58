-- Beyond the program's claim: only laws, proofs and functions inside the tool cite this file.
-- Statements of laws: a firmware has one answer of needs, and one of compartments.
use Rattle.std.specs.Prelude.{◌≡◌, Bool}
use Rattle.ir_model.specs.Plain.{PlainFirmware}
use Rattle.plan_model.specs.declared.needs.Needs.{Needs}
use Rattle.plan_model.specs.declared.policy.Policy.{Policy}
use Rattle.plan_compartments.specs.Analyses.{AreNeedsOf}
use Rattle.plan_compartments.specs.Divisions.{division}

-- a firmware has one answer of needs for an open board, and one for a closed board
abbrev pub NeedsAreOne : Type 0
NeedsAreOne = (w : PlainFirmware) (closed : Bool) (n m : Needs) → AreNeedsOf w closed n → AreNeedsOf w closed m → n ≡ m

-- and a policy makes the same compartments of it for an open and for a closed board
abbrev pub DivisionsAreOne : Type 0
DivisionsAreOne =
    (policy : Policy) (w : PlainFirmware) (closed other : Bool) (n m : Needs) → AreNeedsOf w closed n → AreNeedsOf w other m → division policy w n ≡ division policy w m
