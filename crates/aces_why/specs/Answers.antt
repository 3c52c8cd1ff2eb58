-- What `why` answers where no call on the outside fails and memory does not run out.
use Rattle.std.specs.Prelude.{ℕ, List, None}
use Rattle.aces_reports.specs.declared.failure.Fault.{Fault}
use Rattle.aces_words.specs.Requests.{Origin, firmware_origin}
use Rattle.ir_model.specs.Plain.{PlainFirmware}
use Rattle.aces_files.specs.Answers.{AnswerByFile}
use Rattle.aces_files.specs.Outcomes.{Outcome, done, refused}
use Rattle.aces_firmwares.specs.Firmwares.{IsNoFirmware, IsFirmware}
use Rattle.aces_why.specs.Told.{IsToldOf}

-- the answer on the bytes of the firmware
pub data WhyAnswer (firmware : List ℕ) (bytes : List ℕ) : Outcome → Type 0 where
  no_firmware : (f : Fault) → IsNoFirmware bytes f → WhyAnswer firmware bytes (refused firmware f)
  told : (w : PlainFirmware) (lines : List ℕ) → IsFirmware w bytes → IsToldOf w lines → WhyAnswer firmware bytes (done 0 lines None)

-- the answer to the request
abbrev pub AnswerToWhy : (firmware : List ℕ) (Has : Origin → List ℕ → Type 0) (Exceeds : Origin → Type 0) → Outcome → Type 0
AnswerToWhy firmware = AnswerByFile (firmware_origin firmware) (WhyAnswer firmware)
