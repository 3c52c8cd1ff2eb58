-- Beyond the program's claim: only laws, proofs and functions inside the tool cite this file.
-- That the promises of a firmware whose bound on the stack fits are kept: statements of laws.
use Rattle.machine_devices.specs.declared.image.Image.{Image}
use Rattle.base_ranges.specs.Ranges.{IsPowerBetween}
use Rattle.machine_devices.specs.Rules.{least_stack, greatest_stack}
use Rattle.plan_model.specs.declared.policy.Policy.{Policy}
use Rattle.ir_model.specs.Plain.{PlainFirmware}
use Rattle.ir_model.specs.Resolve.{resolve}
use Rattle.ir_model.specs.Canonical.{IsWithinLimits}
use Rattle.ir_model.specs.Typing.{IsTyped}
use Rattle.need_laws.specs.Checked.{LeastSetsServe}
use Rattle.plan_model.specs.declared.needs.Needs.{Needs}
use Rattle.plan_model.specs.declared.groups.Groups.{Groups}
use Rattle.plan_model.specs.declared.plan.Board.{Board}
use Rattle.plan_model.specs.CompileLimits.{KeepsLimits}
use Rattle.plan_compartments.specs.Analyses.{AreNeedsOf}
use Rattle.plan_compartments.specs.Divisions.{division}
use Rattle.monitor_model.specs.Layout.{initial_word_count}
use Rattle.image_promises.specs.Planned.{planned_tables}
use Rattle.aces_compiler.specs.Compiled.{IsImageFor}
use Rattle.refine_stack.specs.declared.answer.StackAnswer.{StackAnswer}
use Rattle.refine_stack.specs.Answers.{IsAnswer}
use Rattle.refine_stack.specs.Bounds.{FitsStack}
use Rattle.aces_stack.specs.Whole.{RefinesWhole}
use Rattle.aces_stack.specs.Bounded.{IsStackBy}

-- the image of a firmware with these compartments refines it whole where there is a bound of at most the board's stack. (As a field of
-- `IsImageFor` this is what the clause of `compile` says of it)
abbrev pub BoundedImagesRefineWhole : Type 0
BoundedImagesRefineWhole =
    (w : PlainFirmware) (n : Needs) (b : Board) (g : Groups) (i : Image) (is : IsImageFor w n b g i) → FitsStack (resolve w) n g b.stack
    → RefinesWhole w g (initial_word_count (planned_tables w n is.graph b)) i

-- an answer on the stack of a typed firmware keeps both promises
abbrev pub BoundsAreKept : Type 0
BoundsAreKept =
    (policy : Policy) (w : PlainFirmware) (b : Board) (a : StackAnswer) (n : Needs) → IsTyped w → IsWithinLimits w → LeastSetsServe
    → IsPowerBetween least_stack greatest_stack b.stack → AreNeedsOf w b.closed n → KeepsLimits n (division policy w n)
    → IsAnswer (resolve w) n (division policy w n) b.stack a → IsStackBy policy w b a
