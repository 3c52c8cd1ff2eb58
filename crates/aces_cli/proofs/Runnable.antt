-- A good request to run an image or to write an image's flash has no outcome but the one that says that all was done.
use Rattle.std.proofs.Common.{◌≡◌, ℕ, zero, suc, ◌⊎◌, inl, inr, List, None, Some, refl, sym, ◌∙◌, subst}
use Rattle.machine_devices.specs.declared.image.Image.{Image}
use Rattle.machine_devices.specs.declared.image.Window.{Window}
use Rattle.machine_devices.specs.Tape as tapes
use Rattle.machine_image.specs.Text as images
use Rattle.machine_image.specs.Faults as image_faults
use Rattle.ir_reader.specs.Laws as readers
use Rattle.plan_board.specs.Laws.{BoardsAreOne, BoardsAreNotRefused}
use Rattle.aces_reports.specs.declared.failure.Fault.{Fault}
use Rattle.plan_firmwares.specs.Laws.{RefusalsAndPlansExclude}
use Rattle.aces_stack.specs.Laws.{LimitsExclude}
use Rattle.machine_model.specs.declared.state.End.{End}
use Rattle.machine_model.specs.declared.state.End.TheVariants.{Halt, InputEnd, Limit, Stop, Refused}
use Rattle.machine_model.specs.Run.{start}
use Rattle.machine_output.specs.Runs as machine
use Rattle.aces_files.specs.Outcomes.{Outcome}
use Rattle.aces_files.specs.Contents.{IsNoImage, IsNoTape}
use Rattle.aces_files.specs.Answers.{RunAnswer, BinAnswer, no_image, no_tape, ran, wrote}
use Rattle.aces_cli.specs.Complete.{IsRunnable}

-- a text that is a tape has no fault
pub is_tape : (windows : List Window) (t : List ℕ) (f : Fault) → tapes.first_fault t windows ≡ None → IsNoTape windows t f → ⊥
is_tape windows t f h k = let wrong : None ≡ Some k.first = sym h ∙ k.found in cc

-- the ends of runs
machine_ends : (e : End) → (machine.end_status e ≡ 0) ⊎ (machine.end_status e ≡ 7)
machine_ends (Halt zero) = inl refl
machine_ends (Halt (suc k)) = inr refl
machine_ends InputEnd = inl refl
machine_ends Limit = inl refl
machine_ends (Stop reason pc) = inr refl
machine_ends Refused = inl refl

-- what is known of texts and plans
pub record Laws : Type 0 where
  pub unique : readers.TextsAreUnique
  pub faultless : readers.TextsAreFaultless
  pub images : images.TextsAreUnique
  pub no_fault : image_faults.TextsAreFaultless
  pub boards : BoardsAreOne
  pub read : BoardsAreNotRefused
  pub planned : RefusalsAndPlansExclude
  pub limited : LimitsExclude

module _ (laws : Laws) where
  pub is_image : (i : Image) (bytes : List ℕ) (f : Fault) → images.IsText i bytes → IsNoImage bytes f → ⊥
  is_image i bytes f h k = let wrong : None ≡ Some k.first = sym (laws.no_fault i bytes h) ∙ k.found in cc

  pub run_done : (image tape : List ℕ) (steps : ℕ) (bytes t : List ℕ) (o : Outcome) → IsRunnable bytes t → RunAnswer image tape steps bytes t o → (o.status ≡ 0) ⊎ (o.status ≡ 7)
  run_done image tape steps bytes t o g (no_image f k) = absurd (is_image g.image bytes f g.is_text k)
  run_done image tape steps bytes t o g (no_tape i f h k) =
      absurd (is_tape i.windows t f (subst (λ (z : Image). tapes.first_fault t z.windows ≡ None) (laws.images g.image i bytes g.is_text h) g.tape) k)
  run_done image tape steps bytes t o g (ran i h k) = machine_ends (machine.end_of i steps (start i (tapes.queues_of t i.windows) machine.fill))

  pub bin_done : (image file bytes : List ℕ) (o : Outcome) (i : Image) → images.IsText i bytes → BinAnswer image file bytes o → o.status ≡ 0
  bin_done image file bytes o i h (no_image f k) = absurd (is_image i bytes f h k)
  bin_done image file bytes o i h (wrote j k) = refl
