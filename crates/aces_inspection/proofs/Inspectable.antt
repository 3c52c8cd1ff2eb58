-- A good request to look into a run has no outcome but the ones that say that all was done.
use Rattle.std.proofs.Common.{◌≡◌, ℕ, zero, suc, ◌⊎◌, inl, inr, List, refl}
use Rattle.machine_devices.specs.declared.image.Image.{Image}
use Rattle.machine_image.specs.Text.{IsText}
use Rattle.machine_model.specs.declared.state.End.{End}
use Rattle.machine_model.specs.declared.state.End.TheVariants.{Halt, InputEnd, Limit, Stop, Refused}
use Rattle.machine_model.specs.State.{State}
use Rattle.aces_reports.specs.declared.failure.Fault.{Fault}
use Rattle.machine_output.specs.Runs.{end_of, end_status}
use Rattle.machine_output.specs.Watches.{WatchedRun, hit, missed}
use Rattle.aces_files.specs.Contents.{IsNoImage, IsNoTape}
use Rattle.aces_files.specs.Outcomes.{Outcome}
use Rattle.aces_inspection.specs.Answers.{WatchAnswer, StateAnswer, no_image, no_tape, watched, holds}

-- the ends of runs
ends : (e : End) → (end_status e ≡ 0) ⊎ (end_status e ≡ 7)
ends (Halt zero) = inl refl
ends (Halt (suc k)) = inr refl
ends InputEnd = inl refl
ends Limit = inl refl
ends (Stop reason pc) = inr refl
ends Refused = inl refl

watch_ends : (i : Image) (a limit : ℕ) (s : State) (status : ℕ) (printed : List ℕ) → WatchedRun i a limit s status printed → (status ≡ 0) ⊎ (status ≡ 7)
watch_ends i a limit s status printed (hit n e few h) = inl refl
watch_ends i a limit s status printed (missed m) = ends (end_of i limit s)

-- the bytes of both files are an image and a tape for its windows: neither has a fault
module _ (bytes text : List ℕ) (no_fault : (f : Fault) → IsNoImage bytes f → ⊥)
    (no_fault_either : (i : Image) (f : Fault) → IsText i bytes → IsNoTape i.windows text f → ⊥) where
  pub watch_done : (image tape : List ℕ) (steps : ℕ) (address : List ℕ) (o : Outcome) → WatchAnswer image tape steps address bytes text o → (o.status ≡ 0) ⊎ (o.status ≡ 7)
  watch_done image tape steps address o (no_image f h) = absurd (no_fault f h)
  watch_done image tape steps address o (no_tape i f h k) = absurd (no_fault_either i f h k)
  watch_done image tape steps address o (watched i a status printed h k n w) = watch_ends i a steps _ status printed w

  pub state_done : (image tape : List ℕ) (steps : ℕ) (o : Outcome) → StateAnswer image tape steps bytes text o → o.status ≡ 0
  state_done image tape steps o (no_image f h) = absurd (no_fault f h)
  state_done image tape steps o (no_tape i f h k) = absurd (no_fault_either i f h k)
  state_done image tape steps o (holds i made h k n) = refl
