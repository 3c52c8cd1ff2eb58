-- Beyond the program's claim: only laws, proofs and functions inside the tool cite this file.
-- Statements of laws: planning has one answer, where there is memory enough.
use Rattle.std.specs.Prelude.{◌≡◌, ◌≢◌}
use Rattle.ir_model.specs.Resolved.{Program}
use Rattle.plan_model.specs.declared.needs.Needs.{Needs}
use Rattle.plan_model.specs.declared.groups.Groups.{Groups}
use Rattle.plan_model.specs.declared.plan.Board.{Board}
use Rattle.plan.specs.declared.planner.PlannedFirmware.{PlannedFirmware}
use Rattle.plan.specs.declared.refusal.PlanningRefusal.{PlanningRefusal}
use Rattle.plan.specs.declared.refusal.PlanningRefusal.TheVariants.{NoMemory}
use Rattle.plan.specs.Planned.{IsPlannedFor}
use Rattle.plan.specs.Refusals.{IsPlanningRefusal}

-- a firmware is planned in one way
abbrev pub PlansAreOne : Type 0
PlansAreOne = (p : Program) (n : Needs) (g : Groups) (b : Board) (x y : PlannedFirmware) → IsPlannedFor p n g b x → IsPlannedFor p n g b y → x ≡ y

-- one that can be planned is refused for want of memory alone
abbrev pub PlansAreNotRefused : Type 0
PlansAreNotRefused =
    (p : Program) (n : Needs) (g : Groups) (b : Board) (x : PlannedFirmware) (r : PlanningRefusal) → IsPlannedFor p n g b x → IsPlanningRefusal p n g b r → r ≡ NoMemory

-- one that cannot is refused for one reason, but for want of memory
abbrev pub PlanningRefusalsAreOne : Type 0
PlanningRefusalsAreOne =
    (p : Program) (n : Needs) (g : Groups) (b : Board) (r s : PlanningRefusal) → r ≢ NoMemory → s ≢ NoMemory → IsPlanningRefusal p n g b r → IsPlanningRefusal p n g b s → r ≡ s
