-- No answer to `watch` and `state` writes anything.
use Rattle.std.proofs.Common.{◌≡◌, ℕ, List, None, refl}
use Rattle.aces_files.specs.Outcomes.{Outcome}
use Rattle.aces_inspection.specs.Answers.{WatchAnswer, StateAnswer, no_image, no_tape, watched, holds}

pub watch_writes_nothing : (image tape : List ℕ) (steps : ℕ) (address bytes text : List ℕ) (o : Outcome) → WatchAnswer image tape steps address bytes text o → o.written ≡ None
watch_writes_nothing image tape steps address bytes text o (no_image f h) = refl
watch_writes_nothing image tape steps address bytes text o (no_tape i f h k) = refl
watch_writes_nothing image tape steps address bytes text o (watched i a status printed h k n w) = refl

pub state_writes_nothing : (image tape : List ℕ) (steps : ℕ) (bytes text : List ℕ) (o : Outcome) → StateAnswer image tape steps bytes text o → o.written ≡ None
state_writes_nothing image tape steps bytes text o (no_image f h) = refl
state_writes_nothing image tape steps bytes text o (no_tape i f h k) = refl
state_writes_nothing image tape steps bytes text o (holds i made h k n) = refl
