-- Linked images refine their firmwares, or stop for want of stack.
use Rattle.std.proofs.Common.{ℕ, ◌*◌, List}
use Rattle.machine_model.specs.RunningCode.{Context}
use Rattle.ir_model.specs.Plain.{PlainFirmware}
use Rattle.ir_model.specs.Resolve.{resolve}
use Rattle.ir_model.specs.Canonical.{IsWithinLimits}
use Rattle.ir_model.specs.Typing.{IsTyped}
use Rattle.ir_laws.specs.Sets.{ObjectSets}
use Rattle.ir_laws.specs.Typed.{sizes_of}
use Rattle.plan_model.specs.declared.needs.Needs.{Needs}
use Rattle.plan_model.specs.declared.groups.Groups.{Groups}
use Rattle.plan_model.specs.PointsTo.{IsLeast}
use Rattle.plan_model.specs.Needs.{AreNeeds}
use Rattle.code_model.specs.CompartmentCode.{CodePlaces}
use Rattle.monitor_model.specs.Block.{MonitorBlock}
use Rattle.monitor_model.specs.Setting.{Setting, setting_of}
use Rattle.monitor_model.specs.Invariant.{Invariant}
use Rattle.monitor_model.specs.Law.{Law}
use Rattle.refine_model.specs.Refines.{Refines}
use Rattle.refine.specs.Guard.{StackLaw}
use Rattle.refine.specs.NeverWrong.{RefinesOrStops}
use Rattle.refine.specs.CodeLaws.{CodeLaws}
use Rattle.refine.specs.Linked.{Linked}
use Rattle.refine.proofs.Premises.{Premises}
use Rattle.refine.specs.Refinement.{build_of, LinkedImagesRefine, LinkedImagesRefineOrStop}
use Rattle.refine.specs.SourceLaws.{SourceLaws}
use Rattle.refine.proofs.Given.{laid_globals, laid_locals, frame_limited, facts_of}
use Rattle.refine.proofs.WholeRuns.{refined, refined_or_stopped}

module _ (laws : CodeLaws) (source : SourceLaws) where
  premises : (w : PlainFirmware) (S : ObjectSets) (g : Setting) (n : Needs) (groups : Groups) (places : CodePlaces) (Inv : MonitorBlock → Context → List ℕ → Type 0) → IsTyped w → IsWithinLimits w → AreNeeds (resolve w) S n.closed n → Law g Inv →
      Linked (build_of w g n groups places) → Premises (build_of w g n groups places) Inv (sizes_of w) S
  premises w S g n groups places Inv t l needs law linked = record {
    law = law;
    facts = facts_of (build_of w g n groups places) linked (frame_limited source.functions w t l) (laid_locals source.cells w);
    linked = linked;
    laws = laws;
    typed = source.typed w t l;
    needs = needs;
    cells = source.aligned w;
    windows = source.windows w t;
    laid_globals = laid_globals source.cells w;
    laid_locals = laid_locals source.cells w;
    found = source.found;
    numbers = source.numbers;
    pointers = source.pointers;
    elements = source.elements;
    contents = source.contents;
    returns = source.returns;
    accesses = source.accesses;
    listed = source.listed;
    inside = source.inside;
    own = source.own;
    numbered = source.numbered;
  }

  -- whatever invariant the monitor's law speaks of
  pub image_refines : (w : PlainFirmware) (S : ObjectSets) (g : Setting) (n : Needs) (groups : Groups) (places : CodePlaces) (Inv : MonitorBlock → Context → List ℕ → Type 0) → IsTyped w → IsWithinLimits w → IsLeast (resolve w) S → AreNeeds (resolve w) S n.closed n → Law g Inv →
      Linked (build_of w g n groups places) → Refines w n groups (8 * g.eighth) g.words g.image
  image_refines w S g n groups places Inv t l least needs law linked = record {
    matched = λ queues first count reset good.
        refined (build_of w g n groups places) Inv (sizes_of w) S (premises w S g n groups places Inv t l needs law linked) source.moves queues first reset count
        (λ j. (source.values w S t l least.closed).states groups.of queues j) good.no_fault good.within;
  }

  -- or stops for want of stack, whatever room its frames take, where the law of the stack holds
  pub image_refines_or_stops : (w : PlainFirmware) (S : ObjectSets) (g : Setting) (n : Needs) (groups : Groups) (places : CodePlaces) (Inv : MonitorBlock → Context → List ℕ → Type 0) → IsTyped w → IsWithinLimits w → IsLeast (resolve w) S → AreNeeds (resolve w) S n.closed n → Law g Inv →
      Linked (build_of w g n groups places) → StackLaw g Inv → RefinesOrStops w groups g.words g.image
  image_refines_or_stops w S g n groups places Inv t l least needs law linked stack = record {
    served = λ queues first count reset no_fault.
        refined_or_stopped (build_of w g n groups places) Inv (sizes_of w) S (premises w S g n groups places Inv t l needs law linked) source.moves queues first reset count
        (λ j. (source.values w S t l least.closed).states groups.of queues j) no_fault stack;
  }

  pub images_refine : LinkedImagesRefine
  images_refine w S code i t n groups places typed l least needs law linked = image_refines w S (setting_of code i t) n groups places (Invariant i t) typed l least needs law linked

  pub images_refine_or_stop : LinkedImagesRefineOrStop
  images_refine_or_stop w S code i t n groups places typed l least needs law linked stack = image_refines_or_stops w S (setting_of code i t) n groups places (Invariant i t) typed l least needs law linked stack
