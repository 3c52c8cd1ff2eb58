-- What `who` and `help` answer where no call on the outside fails and memory does not run out.
use Rattle.std.specs.Prelude.{ℕ, List, None}
use Rattle.plan_model.specs.declared.policy.Policy.{Policy}
use Rattle.aces_words.specs.Requests.{Origin, file_origin, firmware_origin}
use Rattle.ir_model.specs.Plain.{PlainFirmware}
use Rattle.plan_model.specs.declared.plan.Board.{Board}
use Rattle.plan_board.specs.Reading as boards
use Rattle.aces_files.specs.Answers.{AnswerByFiles}
use Rattle.aces_files.specs.Outcomes.{Outcome, done}
use Rattle.aces_firmwares.specs.Firmwares.{IsFirmware}
use Rattle.aces_firmwares.specs.PlanAnswer.{PlanAnswer}
use Rattle.aces_who.specs.HelpText.{help_text}
use Rattle.aces_who.specs.Owners.{AreOwners}

-- the answer to `who` on the bytes of both files, which is refused as `list` is
pub data WhoAnswer (firmware board : List ℕ) (policy : Policy) (bytes text : List ℕ) : Outcome → Type 0 where
  unplanned : (o : Outcome) → PlanAnswer firmware board policy bytes text o → WhoAnswer firmware board policy bytes text o
  told : (w : PlainFirmware) (b : Board) (lines : List ℕ) → IsFirmware w bytes → boards.IsRead text b → AreOwners policy w b lines →
      WhoAnswer firmware board policy bytes text (done 0 lines None)

-- the answers to both requests
abbrev pub AnswerToWho : (firmware board : List ℕ) → Policy → (Has : Origin → List ℕ → Type 0) (Exceeds : Origin → Type 0) → Outcome → Type 0
AnswerToWho firmware board policy = AnswerByFiles (firmware_origin firmware) (file_origin board) (WhoAnswer firmware board policy)

pub data AnswerToHelp (Has : Origin → List ℕ → Type 0) (Exceeds : Origin → Type 0) : Outcome → Type 0 where
  helped : AnswerToHelp Has Exceeds (done 0 help_text None)
