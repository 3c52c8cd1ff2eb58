-- What `check` and `source` answer where no call on the outside fails and memory does not run out.
use Rattle.std.specs.Prelude.{◌≡◌, ℕ, List, None}
use Rattle.machine_devices.specs.Tape as tapes
use Rattle.aces_reports.specs.declared.failure.Fault.{Fault}
use Rattle.aces_words.specs.Requests.{Origin, file_origin, firmware_origin}
use Rattle.plan_model.specs.declared.policy.Policy.{Policy}
use Rattle.ir_model.specs.Plain.{PlainFirmware}
use Rattle.ir_program.specs.Windows.{windows_of}
use Rattle.plan_compartments.specs.Analyses.{AreCompartmentsBy}
use Rattle.ir_output.specs.SourceRuns.{source_lines, source_status}
use Rattle.aces_files.specs.Answers.{AnswerByFile, AnswerByFiles}
use Rattle.aces_files.specs.Contents.{IsNoTape}
use Rattle.aces_files.specs.Outcomes.{Outcome, done, refused}
use Rattle.aces_firmwares.specs.Counts.{count_line}
use Rattle.aces_firmwares.specs.Firmwares.{IsNoFirmware, IsFirmware}

-- the answer to `check` on the bytes of the firmware
pub data CheckAnswer (firmware : List ℕ) (bytes : List ℕ) : Outcome → Type 0 where
  no_firmware : (f : Fault) → IsNoFirmware bytes f → CheckAnswer firmware bytes (refused firmware f)
  checked : (w : PlainFirmware) → IsFirmware w bytes → CheckAnswer firmware bytes (done 0 (count_line w) None)

-- a run of the source in these compartments on a tape of this text
abbrev pub source_outcome : PlainFirmware → (compartments text : List ℕ) → (steps : ℕ) → Outcome
source_outcome w compartments text steps =
    let queues = tapes.queues_of text (windows_of w) in
    done (source_status w compartments queues steps) (source_lines w compartments queues steps) None

-- the answer to `source` on the bytes of both files, of which the firmware is read and checked first; the compartments are those of
-- the policy by what the firmware's functions need on an open board
pub data SourceAnswer (firmware : List ℕ) (policy : Policy) (tape : List ℕ) (steps : ℕ) (bytes text : List ℕ) : Outcome → Type 0 where
  no_firmware : (f : Fault) → IsNoFirmware bytes f → SourceAnswer firmware policy tape steps bytes text (refused firmware f)
  no_tape : (w : PlainFirmware) (f : Fault) → IsFirmware w bytes → IsNoTape (windows_of w) text f → SourceAnswer firmware policy tape steps bytes text (refused tape f)
  ran : (w : PlainFirmware) (compartments : List ℕ) → IsFirmware w bytes → tapes.first_fault text (windows_of w) ≡ None → AreCompartmentsBy policy w compartments →
      SourceAnswer firmware policy tape steps bytes text (source_outcome w compartments text steps)

-- the answers to both requests
abbrev pub AnswerToCheck : (firmware : List ℕ) (Has : Origin → List ℕ → Type 0) (Exceeds : Origin → Type 0) → Outcome → Type 0
AnswerToCheck firmware = AnswerByFile (firmware_origin firmware) (CheckAnswer firmware)

abbrev pub AnswerToSource : (firmware : List ℕ) → Policy → (tape : List ℕ) (steps : ℕ) (Has : Origin → List ℕ → Type 0) (Exceeds : Origin → Type 0) → Outcome → Type 0
AnswerToSource firmware policy tape steps = AnswerByFiles (firmware_origin firmware) (file_origin tape) (SourceAnswer firmware policy tape steps)
