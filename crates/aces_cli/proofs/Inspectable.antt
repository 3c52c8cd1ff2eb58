-- A good request to look into a run has no outcome but those that say that all was done.
use Rattle.std.proofs.Common.{◌≡◌, ℕ, ◌⊎◌, List, None, subst}
use Rattle.machine_devices.specs.declared.image.Image.{Image}
use Rattle.machine_devices.specs.Tape as tapes
use Rattle.machine_image.specs.Text.{IsText}
use Rattle.aces_reports.specs.declared.failure.Fault.{Fault}
use Rattle.aces_files.specs.Contents.{IsNoImage, IsNoTape}
use Rattle.aces_files.specs.Outcomes.{Outcome}
use Rattle.aces_inspection.specs.Answers.{WatchAnswer, StateAnswer}
use Rattle.aces_inspection.proofs.Inspectable.{watch_done, state_done}
use Rattle.aces_cli.specs.Complete.{IsRunnable}
use Rattle.aces_cli.proofs.Runnable.{Laws, is_image, is_tape}

module _ (laws : Laws) where
  -- what both files hold has no fault
  no_fault : (bytes t : List ℕ) → IsRunnable bytes t → (f : Fault) → IsNoImage bytes f → ⊥
  no_fault bytes t g f k = is_image laws g.image bytes f g.is_text k

  no_fault_either : (bytes t : List ℕ) → IsRunnable bytes t → (i : Image) (f : Fault) → IsText i bytes → IsNoTape i.windows t f → ⊥
  no_fault_either bytes t g i f h k =
      is_tape i.windows t f (subst (λ (z : Image). tapes.first_fault t z.windows ≡ None) (laws.images g.image i bytes g.is_text h) g.tape) k

  pub watch_ends : (image tape : List ℕ) (steps : ℕ) (address bytes t : List ℕ) (o : Outcome) → IsRunnable bytes t → WatchAnswer image tape steps address bytes t o
      → (o.status ≡ 0) ⊎ (o.status ≡ 7)
  watch_ends image tape steps address bytes t o g a = watch_done bytes t (no_fault bytes t g) (no_fault_either bytes t g) image tape steps address o a

  pub state_ends : (image tape : List ℕ) (steps : ℕ) (bytes t : List ℕ) (o : Outcome) → IsRunnable bytes t → StateAnswer image tape steps bytes t o → o.status ≡ 0
  state_ends image tape steps bytes t o g a = state_done bytes t (no_fault bytes t g) (no_fault_either bytes t g) image tape steps o a
