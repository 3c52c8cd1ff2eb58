-- A firmware that has a plan for a board by a policy.
use Rattle.plan_model.specs.declared.policy.Policy.{Policy}
use Rattle.ir_model.specs.Plain.{PlainFirmware}
use Rattle.ir_model.specs.Resolve.{resolve}
use Rattle.plan_model.specs.declared.needs.Needs.{Needs}
use Rattle.plan_model.specs.declared.plan.Board.{Board}
use Rattle.plan_compartments.specs.Analyses.{AreNeedsOf}
use Rattle.plan_compartments.specs.Divisions.{division}
use Rattle.plan.specs.declared.planner.PlannedFirmware.{PlannedFirmware}
use Rattle.plan.specs.Planned.{IsPlannedFor}

-- the firmware has a plan for the board by the policy: in its compartments, by the needs on a board of its kind
pub record IsPlannable (policy : Policy) (w : PlainFirmware) (b : Board) : Type 0 where
  pub needs : Needs
  pub are_needs : AreNeedsOf w b.closed needs
  pub made : PlannedFirmware
  pub planned : IsPlannedFor (resolve w) needs (division policy w needs) b made
