-- What `watch` and `state` answer where no call on the outside fails and memory does not run out.
use Rattle.std.specs.Prelude.{◌≡◌, ◌≢◌, ℕ, ◌<◌, ◌≤◌, ◌⊎◌, List, Some, None}
use Rattle.base_words.specs.Runs.{run}
use Rattle.machine_devices.specs.declared.image.Image.{Image}
use Rattle.machine_devices.specs.Tape as tapes
use Rattle.machine_image.specs.Text.{IsText}
use Rattle.machine_model.specs.State.{State}
use Rattle.machine_model.specs.Step.{step}
use Rattle.machine_model.specs.Run.{start, after}
use Rattle.aces_reports.specs.declared.failure.Fault.{Fault}
use Rattle.aces_words.specs.Requests.{Origin, file_origin, address_of}
use Rattle.machine_output.specs.Runs.{fill}
use Rattle.machine_output.specs.Watches.{WatchedRun}
use Rattle.aces_files.specs.Answers.{AnswerByFiles}
use Rattle.aces_files.specs.Contents.{IsNoImage, IsNoTape}
use Rattle.aces_files.specs.Outcomes.{Outcome, done, refused}
use Rattle.aces_inspection.specs.StateLines.{state_lines}

-- the answer to `watch` on the bytes of both files: the lines of the watched run
pub data WatchAnswer (image tape : List ℕ) (steps : ℕ) (address : List ℕ) (bytes text : List ℕ) : Outcome → Type 0 where
  no_image : (f : Fault) → IsNoImage bytes f → WatchAnswer image tape steps address bytes text (refused image f)
  no_tape : (i : Image) (f : Fault) → IsText i bytes → IsNoTape i.windows text f → WatchAnswer image tape steps address bytes text (refused tape f)
  watched : (i : Image) (a status : ℕ) (printed : List ℕ) → IsText i bytes → tapes.first_fault text i.windows ≡ None → address_of address ≡ Some a
      → WatchedRun i a steps (start i (tapes.queues_of text i.windows) fill) status printed
      → WatchAnswer image tape steps address bytes text (done status printed None)

-- of at most so many steps these are made: the machine goes on before each of them, and behind them it has ended, or no more were asked for
pub record IsRunOut (i : Image) (limit : ℕ) (s : State) (steps : ℕ) : Type 0 where
  pub few : steps ≤ limit
  pub goes_on : (k : ℕ) → k < steps → (run (step i) k s).ending ≡ None
  pub over : (steps ≡ limit) ⊎ ((run (step i) steps s).ending ≢ None)

-- the answer to `state`: what the machine holds behind these steps
pub data StateAnswer (image tape : List ℕ) (steps : ℕ) (bytes text : List ℕ) : Outcome → Type 0 where
  no_image : (f : Fault) → IsNoImage bytes f → StateAnswer image tape steps bytes text (refused image f)
  no_tape : (i : Image) (f : Fault) → IsText i bytes → IsNoTape i.windows text f → StateAnswer image tape steps bytes text (refused tape f)
  holds : (i : Image) (made : ℕ) → IsText i bytes → tapes.first_fault text i.windows ≡ None
      → IsRunOut i steps (start i (tapes.queues_of text i.windows) fill) made
      → StateAnswer image tape steps bytes text (done 0 (state_lines i made (after i (tapes.queues_of text i.windows) fill made)) None)

-- the answers to both requests, as that to `run`
abbrev pub AnswerToWatch : (image tape : List ℕ) (steps : ℕ) (address : List ℕ) (Has : Origin → List ℕ → Type 0) (Exceeds : Origin → Type 0) → Outcome → Type 0
AnswerToWatch image tape steps address = AnswerByFiles (file_origin image) (file_origin tape) (WatchAnswer image tape steps address)

abbrev pub AnswerToState : (image tape : List ℕ) (steps : ℕ) (Has : Origin → List ℕ → Type 0) (Exceeds : Origin → Type 0) → Outcome → Type 0
AnswerToState image tape steps = AnswerByFiles (file_origin image) (file_origin tape) (StateAnswer image tape steps)
