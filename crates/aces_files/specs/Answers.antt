-- What a request on one or two files answers where no call on the outside fails and memory does not run out, and what `run` and `bin` then answer.
use Rattle.std.specs.Prelude.{◌≡◌, ℕ, List, [], Some, None}
use Rattle.machine_devices.specs.declared.image.Image.{Image}
use Rattle.machine_devices.specs.Tape as tapes
use Rattle.machine_image.specs.Text.{IsText}
use Rattle.machine_model.specs.Run.{start}
use Rattle.aces_reports.specs.declared.failure.Fault.{Fault}
use Rattle.aces_reports.specs.declared.failure.Fault.TheVariants.{TooLarge}
use Rattle.aces_words.specs.Requests.{Origin, file_origin}
use Rattle.machine_output.specs.Runs.{fill, end_of, run_lines, end_status}
use Rattle.aces_files.specs.Contents.{IsNoImage, IsNoTape}
use Rattle.aces_files.specs.Outcomes.{Outcome, done, refused}

-- a run on a tape of this text: the lines of its events and of its end, and nothing is written
abbrev pub run_outcome : Image → (text : List ℕ) → (steps : ℕ) → Outcome
run_outcome i text steps =
    let s = start i (tapes.queues_of text i.windows) fill in
    done (end_status (end_of i steps s)) (run_lines i steps s) None

-- the answer to `run` on the bytes of both files
pub data RunAnswer (image tape : List ℕ) (steps : ℕ) (bytes text : List ℕ) : Outcome → Type 0 where
  no_image : (f : Fault) → IsNoImage bytes f → RunAnswer image tape steps bytes text (refused image f)
  no_tape : (i : Image) (f : Fault) → IsText i bytes → IsNoTape i.windows text f → RunAnswer image tape steps bytes text (refused tape f)
  ran : (i : Image) → IsText i bytes → tapes.first_fault text i.windows ≡ None → RunAnswer image tape steps bytes text (run_outcome i text steps)

-- the answer to `bin` on the bytes of the image
pub data BinAnswer (image file : List ℕ) (bytes : List ℕ) : Outcome → Type 0 where
  no_image : (f : Fault) → IsNoImage bytes f → BinAnswer image file bytes (refused image f)
  wrote : (i : Image) → IsText i bytes → BinAnswer image file bytes (done 0 [] (Some (record { name = file; bytes = i.flash })))

-- The answer to a request on one file, by what it answers by the bytes of that file. `Has` says which bytes a source within its limit holds, and
-- `Exceeds` that one is larger than its limit.
pub data AnswerByFile (s : Origin) (A : (bytes : List ℕ) → Outcome → Type 0) (Has : Origin → List ℕ → Type 0) (Exceeds : Origin → Type 0) : Outcome → Type 0 where
  too_large : Exceeds s → AnswerByFile s A Has Exceeds (refused s.name (TooLarge s.limit))
  read : (bytes : List ℕ) (o : Outcome) → Has s bytes → A bytes o → AnswerByFile s A Has Exceeds o

-- The answer to a request on two files: where the first is larger than its limit, or the first is there and the second is larger than its limit, the
-- larger one is refused; else the answer is by the bytes of both.
pub data AnswerByFiles (s t : Origin) (A : (bytes text : List ℕ) → Outcome → Type 0) (Has : Origin → List ℕ → Type 0) (Exceeds : Origin → Type 0) : Outcome → Type 0 where
  first_large : Exceeds s → AnswerByFiles s t A Has Exceeds (refused s.name (TooLarge s.limit))
  second_large : (bytes : List ℕ) → Has s bytes → Exceeds t → AnswerByFiles s t A Has Exceeds (refused t.name (TooLarge t.limit))
  both_read : (bytes text : List ℕ) (o : Outcome) → Has s bytes → Has t text → A bytes text o → AnswerByFiles s t A Has Exceeds o

-- the answers to these requests
abbrev pub AnswerToRun : (image tape : List ℕ) (steps : ℕ) (Has : Origin → List ℕ → Type 0) (Exceeds : Origin → Type 0) → Outcome → Type 0
AnswerToRun image tape steps = AnswerByFiles (file_origin image) (file_origin tape) (RunAnswer image tape steps)

abbrev pub AnswerToBin : (image file : List ℕ) (Has : Origin → List ℕ → Type 0) (Exceeds : Origin → Type 0) → Outcome → Type 0
AnswerToBin image file = AnswerByFile (file_origin image) (BinAnswer image file)
