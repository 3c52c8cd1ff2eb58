-- Beyond the program's claim: only laws, proofs and functions inside the tool cite this file.
-- Statements of laws: a firmware with a plan is not refused, and one without a plan is refused for one reason.
use Rattle.std.specs.Prelude.{◌≡◌, ◌≢◌}
use Rattle.plan_model.specs.declared.policy.Policy.{Policy}
use Rattle.ir_model.specs.Plain.{PlainFirmware}
use Rattle.plan_model.specs.declared.plan.Board.{Board}
use Rattle.plan.specs.declared.refusal.PlanningRefusal.{PlanningRefusal}
use Rattle.plan.specs.declared.refusal.PlanningRefusal.TheVariants.{NoMemory}
use Rattle.plan_firmwares.specs.Plannable.{IsPlannable}
use Rattle.plan_firmwares.specs.Unplanned.{IsRefusedBy}

-- a firmware that has a plan for a board by a policy is refused for want of memory alone
abbrev pub RefusalsAndPlansExclude : Type 0
RefusalsAndPlansExclude = (policy : Policy) (w : PlainFirmware) (b : Board) (r : PlanningRefusal) → IsPlannable policy w b → IsRefusedBy policy w b r → r ≡ NoMemory

-- one that has none is refused for one reason, but for want of memory
abbrev pub RefusalsAreOne : Type 0
RefusalsAreOne =
    (policy : Policy) (w : PlainFirmware) (b : Board) (r s : PlanningRefusal) → r ≢ NoMemory → s ≢ NoMemory → IsRefusedBy policy w b r → IsRefusedBy policy w b s → r ≡ s
