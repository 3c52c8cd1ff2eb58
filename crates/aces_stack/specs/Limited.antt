-- Which firmwares have an answer on their stack.
use Rattle.plan_model.specs.declared.policy.Policy.{Policy}
use Rattle.ir_model.specs.Plain.{PlainFirmware}
use Rattle.plan_model.specs.declared.needs.Needs.{Needs}
use Rattle.plan_model.specs.declared.plan.Board.{Board}
use Rattle.plan_model.specs.CompileLimits.{KeepsLimits}
use Rattle.plan_compartments.specs.Analyses.{AreNeedsOf}
use Rattle.plan_compartments.specs.Divisions.{division}
use Rattle.plan.specs.declared.refusal.PlanningRefusal.{PlanningRefusal}
use Rattle.plan.specs.declared.refusal.PlanningRefusal.TheVariants.{NoMemory, Limit, Denied, Room}
use Rattle.plan_firmwares.specs.Unplanned.{IsRefusedBy}

-- in the compartments of the policy, by the needs on a board of its kind, no limit of what is compiled is passed. No memory of the board is
-- asked for room, and nothing that it denies is looked at
pub record KeepsLimitsBy (policy : Policy) (w : PlainFirmware) (b : Board) : Type 0 where
  pub needs : Needs
  pub are_needs : AreNeedsOf w b.closed needs
  pub limits : KeepsLimits needs (division policy w needs)

-- why nothing is answered of a firmware's stack: such a limit is passed; a refusal for want of memory says nothing else
abbrev pub IsLimited : Policy → PlainFirmware → Board → PlanningRefusal → Type 0
IsLimited policy w b NoMemory = Unit {0}
IsLimited policy w b (Limit k c) = IsRefusedBy policy w b (Limit k c)
IsLimited policy w b (Denied m) = ⊥
IsLimited policy w b (Room lack) = ⊥
