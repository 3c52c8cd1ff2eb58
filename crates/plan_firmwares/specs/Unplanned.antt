-- The reason why a firmware has no plan for a board by a policy.
use Rattle.plan_model.specs.declared.policy.Policy.{Policy}
use Rattle.ir_model.specs.Plain.{PlainFirmware}
use Rattle.ir_model.specs.Resolve.{resolve}
use Rattle.plan_model.specs.declared.needs.Needs.{Needs}
use Rattle.plan_model.specs.declared.plan.Board.{Board}
use Rattle.plan_compartments.specs.Analyses.{AreNeedsOf}
use Rattle.plan_compartments.specs.Divisions.{division}
use Rattle.plan.specs.declared.refusal.PlanningRefusal.{PlanningRefusal}
use Rattle.plan.specs.declared.refusal.PlanningRefusal.TheVariants.{NoMemory, Limit, Denied, Room}
use Rattle.plan.specs.Refusals.{IsPlanningRefusal}

-- the firmware has no plan in the compartments of the policy, by the needs on a board of its kind, for this reason
pub record IsRefusedBy (policy : Policy) (w : PlainFirmware) (b : Board) (r : PlanningRefusal) : Type 0 where
  pub needs : Needs
  pub are_needs : AreNeedsOf w b.closed needs
  pub refused : IsPlanningRefusal (resolve w) needs (division policy w needs) b r

-- a refusal for want of memory says nothing else
abbrev pub IsUnplanned : Policy → PlainFirmware → Board → PlanningRefusal → Type 0
IsUnplanned policy w b NoMemory = Unit {0}
IsUnplanned policy w b (Limit k c) = IsRefusedBy policy w b (Limit k c)
IsUnplanned policy w b (Denied m) = IsRefusedBy policy w b (Denied m)
IsUnplanned policy w b (Room lack) = IsRefusedBy policy w b (Room lack)
