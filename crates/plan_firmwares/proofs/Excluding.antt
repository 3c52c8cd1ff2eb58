-- A firmware that has a plan is refused for want of memory alone, and one that has none for one other reason.
use Rattle.std.proofs.Common.{◌≡◌, subst}
use Rattle.plan_model.specs.declared.policy.Policy.{Policy}
use Rattle.ir_model.specs.Plain.{PlainFirmware}
use Rattle.ir_model.specs.Resolve.{resolve}
use Rattle.plan_model.specs.declared.needs.Needs.{Needs}
use Rattle.plan_model.specs.declared.plan.Board.{Board}
use Rattle.plan_compartments.specs.Analyses.{AreNeedsOf}
use Rattle.plan_compartments.specs.Divisions.{division}
use Rattle.plan_compartments.specs.Laws.{NeedsAreOne}
use Rattle.plan.specs.declared.refusal.PlanningRefusal.{PlanningRefusal}
use Rattle.plan.specs.Laws.{PlansAreNotRefused, PlanningRefusalsAreOne}
use Rattle.plan.specs.Refusals.{IsPlanningRefusal}
use Rattle.plan_firmwares.specs.Unplanned.{IsRefusedBy}
use Rattle.plan_firmwares.specs.Laws.{RefusalsAndPlansExclude, RefusalsAreOne}

-- a refusal is one by any needs of the firmware
refused_by : NeedsAreOne → (policy : Policy) (w : PlainFirmware) (b : Board) (r : PlanningRefusal) (n : Needs) → AreNeedsOf w b.closed n
    → IsRefusedBy policy w b r → IsPlanningRefusal (resolve w) n (division policy w n) b r
refused_by one policy w b r n a h =
    let same : h.needs ≡ n = one w b.closed h.needs n h.are_needs a in
    subst (λ (m : Needs). IsPlanningRefusal (resolve w) m (division policy w m) b r) same h.refused

pub exclude : NeedsAreOne → PlansAreNotRefused → RefusalsAndPlansExclude
exclude one planned policy w b r plan h =
    planned (resolve w) plan.needs (division policy w plan.needs) b plan.made r plan.planned (refused_by one policy w b r plan.needs plan.are_needs h)

pub one_refusal : NeedsAreOne → PlanningRefusalsAreOne → RefusalsAreOne
one_refusal one refused policy w b r s a d h k =
    refused (resolve w) k.needs (division policy w k.needs) b r s a d (refused_by one policy w b r k.needs k.are_needs h) k.refused
