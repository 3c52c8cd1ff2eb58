-- What planning makes of an analysed firmware.
use Rattle.std.proofs.Common.{◌≡◌, Bool, length, sym, subst, ◌∙◌}
use Rattle.ir_model.specs.Plain.{PlainFirmware, funcs_of}
use Rattle.ir_model.specs.Resolve.{resolve}
use Rattle.ir_model.specs.Resolved.{Program}
use Rattle.ir_program.specs.Seen.{program_of}
use Rattle.ir_laws.proofs.Resolved.{as_many}
use Rattle.plan_model.specs.declared.policy.Policy.{Policy}
use Rattle.plan_model.specs.declared.groups.Groups.{Groups}
use Rattle.plan_model.specs.declared.needs.Needs.{Needs}
use Rattle.plan_model.specs.declared.plan.Board.{Board}
use Rattle.plan_model.specs.Compartments.{AreCompartments}
use Rattle.plan_compartments.specs.Analyses.{AreNeedsOf}
use Rattle.plan.specs.declared.planner.PlannedFirmware.{PlannedFirmware}
use Rattle.plan.specs.declared.refusal.PlanningRefusal.{PlanningRefusal}
use Rattle.plan.specs.declared.refusal.PlanningRefusal.TheVariants.{NoMemory, Limit, Denied, Room}
use Rattle.plan.specs.Planned.{IsPlannedFor}
use Rattle.plan.specs.Refusals.{IsPlanningRefusal}
use Rattle.plan_firmwares.specs.declared.analysis.Analysis.{Analysis}
use Rattle.plan_firmwares.specs.Analysed.{IsAnalysisOf, IsPlanOf, IsRefusalOf}
use Rattle.plan_firmwares.specs.Unplanned.{IsUnplanned}

pub each_need : (w : PlainFirmware) (closed : Bool) (n : Needs) → AreNeedsOf w closed n → length n.funcs ≡ length (funcs_of w)
each_need w closed n h = h.needs.count ∙ as_many w

module _ (a : Analysis) (b : Board) (g : Groups) (e : g ≡ a.groups) where
  pub plan_of_analysis : (x : PlannedFirmware) → IsPlannedFor (program_of a.program) a.needs g b x → IsPlanOf a b x
  plan_of_analysis x k policy w h =
      record {
        planned = subst (λ (y : Groups). IsPlannedFor (resolve w) a.needs y b x) (e ∙ h.groups) is;
        compartments = subst (AreCompartments (resolve w)) (sym (is.groups ∙ e)) h.compartments;
      }
    where
      is : IsPlannedFor (resolve w) a.needs g b x
      is = subst (λ (p : Program). IsPlannedFor p a.needs g b x) h.program k

  pub refusal_of_analysis : (r : PlanningRefusal) → IsPlanningRefusal (program_of a.program) a.needs g b r → IsRefusalOf a b r
  refusal_of_analysis r k policy w h =
      subst (λ (y : Groups). IsPlanningRefusal (resolve w) a.needs y b r) (e ∙ h.groups)
      (subst (λ (p : Program). IsPlanningRefusal p a.needs g b r) h.program k)

-- a firmware whose analysis is not planned
module _ (policy : Policy) (w : PlainFirmware) (b : Board) (a : Analysis) (h : IsAnalysisOf policy w b.closed a) where
  pub unplanned : (r : PlanningRefusal) → IsRefusalOf a b r → IsUnplanned policy w b r
  unplanned NoMemory k = tt
  unplanned (Limit which count) k = record { needs = a.needs; are_needs = h.needs; refused = k policy w h }
  unplanned (Denied m) k = record { needs = a.needs; are_needs = h.needs; refused = k policy w h }
  unplanned (Room lack) k = record { needs = a.needs; are_needs = h.needs; refused = k policy w h }
