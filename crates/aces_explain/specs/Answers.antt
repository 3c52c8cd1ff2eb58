-- What `explain` answers where no call on the outside fails and memory does not run out.
use Rattle.std.specs.Prelude.{◌≡◌, ℕ, List, Some, None}
use Rattle.aces_words.specs.Requests.{Origin, firmware_origin}
use Rattle.ir_model.specs.declared.token.Excess.{Excess}
use Rattle.ir_model.specs.declared.token.Pos.{Pos}
use Rattle.ir_model.specs.Plain.{PlainFirmware}
use Rattle.ir_model.specs.Texts as firmwares
use Rattle.ir_model.specs.Texts.{NotUtf8At, SyntaxAt, PassesAt}
use Rattle.ir_model.specs.Typing.{Failing, fault_of}
use Rattle.ir_text_places.specs.Faulty.{item_of}
use Rattle.ir_text_places.specs.Items.{tokens_before}
use Rattle.ir_text_places.specs.Stands.{Stands}
use Rattle.ir_expected_tokens.specs.SyntaxLines.{syntax_lines}
use Rattle.ir_check_details.specs.CheckLines.{check_lines}
use Rattle.aces_explain.specs.Explanations.{utf8_told, syntax_told, passed_told, check_told}
use Rattle.aces_files.specs.Answers.{AnswerByFile}
use Rattle.aces_files.specs.Outcomes.{Outcome, done}
use Rattle.aces_firmwares.specs.Counts.{count_line}
use Rattle.aces_firmwares.specs.Firmwares.{IsFirmware}

-- the answer on the bytes of the firmware, by their first fault, or by none: a failing check is told of the place where its item begins
pub data ExplainAnswer (firmware : List ℕ) (bytes : List ℕ) : Outcome → Type 0 where
  not_utf8 : (at : ℕ) → NotUtf8At bytes at → ExplainAnswer firmware bytes (done 1 (utf8_told firmware at) None)
  unexpected : (pos : Pos) → SyntaxAt bytes pos → ExplainAnswer firmware bytes (done 1 (syntax_told firmware bytes pos (syntax_lines bytes)) None)
  passed : (excess : Excess) (pos : Pos) → PassesAt bytes excess pos → ExplainAnswer firmware bytes (done 1 (passed_told firmware bytes excess pos) None)
  ill_typed : (w : PlainFirmware) (f : Failing) (pos : Pos) → firmwares.IsText w bytes → fault_of w ≡ Some f → Stands w bytes (tokens_before w (item_of w f)) pos
      → ExplainAnswer firmware bytes (done 1 (check_told firmware bytes f pos (check_lines w f)) None)
  fine : (w : PlainFirmware) → IsFirmware w bytes → ExplainAnswer firmware bytes (done 0 (count_line w) None)

-- the answer to the request
abbrev pub AnswerToExplain : (firmware : List ℕ) (Has : Origin → List ℕ → Type 0) (Exceeds : Origin → Type 0) → Outcome → Type 0
AnswerToExplain firmware = AnswerByFile (firmware_origin firmware) (ExplainAnswer firmware)
