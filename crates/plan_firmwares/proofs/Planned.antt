-- What planning makes of a checked firmware and its own needs is planned.
use Rattle.std.proofs.Common.{refl, sym, subst}
use Rattle.ir_model.specs.Plain.{PlainFirmware}
use Rattle.ir_model.specs.Canonical.{IsWithinLimits}
use Rattle.ir_model.specs.Typing.{IsTyped}
use Rattle.ir_model.specs.Resolve.{resolve}
use Rattle.plan_model.specs.declared.groups.Groups.{Groups}
use Rattle.plan_model.specs.declared.needs.Needs.{Needs}
use Rattle.plan_model.specs.declared.plan.Board.{Board}
use Rattle.plan_model.specs.declared.plan.Sizes.{Sizes}
use Rattle.plan_model.specs.Boards.{IsBoard, slots_of}
use Rattle.plan_model.specs.Compartments.{AreCompartments}
use Rattle.plan_model.specs.CompileLimits.{KeepsLimits}
use Rattle.plan_model.specs.FinalGraph.{IsFinal}
use Rattle.plan_model.specs.Placement.{Fits}
use Rattle.need_laws.specs.Checked.{LeastSetsServe}
use Rattle.plan_compartments.specs.Analyses.{AreNeedsOf}
use Rattle.plan.specs.PlannedFirmwares.{IsPlanned}
use Rattle.plan.specs.declared.planner.PlannedFirmware.{PlannedFirmware}
use Rattle.plan.specs.Planned.{IsPlannedFor}

pub is_planned : (w : PlainFirmware) (n : Needs) (b : Board) (g : Groups) (x : PlannedFirmware) → IsPlannedFor (resolve w) n g b x
    → LeastSetsServe → IsTyped w → IsWithinLimits w → AreNeedsOf w b.closed n → IsBoard b → AreCompartments (resolve w) x.graph.groups → IsPlanned w n x.graph b
is_planned w n b g x k serve typed within needs board are =
    record {
      typed = typed;
      within = within;
      sets = needs.sets;
      are_sets = serve (resolve w) needs.sets (record { firmware = w; typed = typed; within = within; is = refl }) needs.least;
      needs = needs.needs;
      groups = are;
      limits = subst (λ (y : Groups). KeepsLimits n y) (sym k.groups) k.limits;
      final = subst (λ (y : Groups). IsFinal (resolve w) n y (slots_of b) x.graph) (sym k.groups) k.final;
      board = board;
      fits = subst (λ (s : Sizes). Fits (resolve w) x.graph s b) k.placed.sizes k.placed.fits;
    }
