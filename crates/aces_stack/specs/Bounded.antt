-- The bound on the stack of a firmware on a board by a policy, and what is promised where it fits.
use Rattle.std.specs.Prelude.{ℕ, ◌≤◌}
use Rattle.machine_devices.specs.declared.image.Image.{Image}
use Rattle.plan_model.specs.declared.policy.Policy.{Policy}
use Rattle.ir_model.specs.Plain.{PlainFirmware}
use Rattle.ir_model.specs.Resolve.{resolve}
use Rattle.plan_model.specs.declared.needs.Needs.{Needs}
use Rattle.plan_model.specs.declared.plan.Board.{Board}
use Rattle.plan_model.specs.CompileLimits.{KeepsLimits}
use Rattle.plan_compartments.specs.Analyses.{AreNeedsOf}
use Rattle.plan_compartments.specs.Divisions.{division}
use Rattle.monitor_model.specs.Layout.{initial_word_count}
use Rattle.image_promises.specs.Planned.{planned_tables}
use Rattle.aces_compiler.specs.ByPolicy.{IsImageBy}
use Rattle.refine_stack.specs.declared.answer.StackAnswer.{StackAnswer}
use Rattle.refine_stack.specs.declared.answer.StackAnswer.TheVariants.{Cycle, Bound}
use Rattle.refine_stack.specs.Answers.{IsAnswer}
use Rattle.aces_stack.specs.StackLaws.{StaysWithin}
use Rattle.aces_stack.specs.Whole.{RefinesWhole}

-- a bound of at most the stack
abbrev pub Fits : (stack : ℕ) → StackAnswer → Type 0
Fits stack (Cycle c) = ⊥
Fits stack (Bound needed path) = needed ≤ stack

-- every image that the firmware gets for the board by the policy refines it, with no premise on the stack
abbrev pub ImagesRefineWhole : Policy → PlainFirmware → Board → Type 0
ImagesRefineWhole policy w b =
    (i : Image) (by : IsImageBy policy w b i)
    → RefinesWhole w (division policy w by.needs) (initial_word_count (planned_tables w by.needs by.image.graph b)) i

-- the answer on the stack of a firmware in the compartments of the policy, of which no limit is passed
pub record IsStackBy (policy : Policy) (w : PlainFirmware) (b : Board) (a : StackAnswer) : Type 0 where
  pub needs : Needs
  pub are_needs : AreNeedsOf w b.closed needs
  pub limits : KeepsLimits needs (division policy w needs)
  pub answer : IsAnswer (resolve w) needs (division policy w needs) b.stack a
  -- where it fits, every state of every run is within the stack's limit
  pub within : Fits b.stack a → StaysWithin w needs (division policy w needs) b.stack
  -- so the images of the firmware refine it wherever its run meets no fault
  pub whole : Fits b.stack a → ImagesRefineWhole policy w b
