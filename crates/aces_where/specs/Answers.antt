-- What `where` answers where no call on the outside fails and memory does not run out.
use Rattle.std.specs.Prelude.{◌≡◌, ℕ, List, None}
use Rattle.machine_devices.specs.Tape as tapes
use Rattle.aces_reports.specs.declared.failure.Fault.{Fault}
use Rattle.aces_words.specs.Requests.{Origin, file_origin, firmware_origin}
use Rattle.plan_model.specs.declared.policy.Policy.{Policy}
use Rattle.ir_model.specs.Plain.{PlainFirmware}
use Rattle.ir_program.specs.Windows.{windows_of}
use Rattle.plan_compartments.specs.Analyses.{AreCompartmentsBy}
use Rattle.aces_files.specs.Answers.{AnswerByFiles}
use Rattle.aces_files.specs.Contents.{IsNoTape}
use Rattle.aces_files.specs.Outcomes.{Outcome, done, refused}
use Rattle.aces_firmwares.specs.Firmwares.{IsNoFirmware, IsFirmware}
use Rattle.aces_where.specs.Runs.{AreLines}

-- the answer on the bytes of both files, which are refused as `source` refuses them; the compartments are those of `source`
pub data WhereAnswer (firmware : List ℕ) (policy : Policy) (tape : List ℕ) (limit : ℕ) (bytes text : List ℕ) : Outcome → Type 0 where
  no_firmware : (f : Fault) → IsNoFirmware bytes f → WhereAnswer firmware policy tape limit bytes text (refused firmware f)
  no_tape : (w : PlainFirmware) (f : Fault) → IsFirmware w bytes → IsNoTape (windows_of w) text f → WhereAnswer firmware policy tape limit bytes text (refused tape f)
  stands : (w : PlainFirmware) (compartments lines : List ℕ) → IsFirmware w bytes → tapes.first_fault text (windows_of w) ≡ None
      → AreCompartmentsBy policy w compartments → AreLines w compartments (tapes.queues_of text (windows_of w)) limit lines
      → WhereAnswer firmware policy tape limit bytes text (done 0 lines None)

-- the answer to the request
abbrev pub AnswerToWhere : (firmware : List ℕ) → Policy → (tape : List ℕ) (limit : ℕ) (Has : Origin → List ℕ → Type 0) (Exceeds : Origin → Type 0) → Outcome → Type 0
AnswerToWhere firmware policy tape limit = AnswerByFiles (firmware_origin firmware) (file_origin tape) (WhereAnswer firmware policy tape limit)
