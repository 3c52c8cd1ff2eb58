-- What `list`, `symbols` and `stack` answer where no call on the outside fails and memory does not run out.
use Rattle.std.specs.Prelude.{ℕ, List, None}
use Rattle.aces_reports.specs.declared.failure.Fault.{Fault}
use Rattle.aces_words.specs.Requests.{Origin, file_origin, firmware_origin}
use Rattle.plan_model.specs.declared.policy.Policy.{Policy}
use Rattle.ir_model.specs.Plain.{PlainFirmware}
use Rattle.plan_model.specs.declared.plan.Board.{Board}
use Rattle.plan_model.specs.declared.limits.LimitKind.{LimitKind}
use Rattle.plan_board.specs.Reading as boards
use Rattle.plan.specs.declared.refusal.PlanningRefusal.TheVariants as planning
use Rattle.aces_plans.specs.Listings.{IsListing}
use Rattle.aces_plans.specs.FirmwareSymbols.{AreSymbols}
use Rattle.aces_stack.specs.Lines.{stack_lines, stack_status}
use Rattle.refine_stack.specs.declared.answer.StackAnswer.{StackAnswer}
use Rattle.aces_stack.specs.Bounded.{IsStackBy}
use Rattle.plan_firmwares.specs.Unplanned.{IsRefusedBy}
use Rattle.aces_files.specs.Answers.{AnswerByFiles}
use Rattle.aces_files.specs.Contents.{IsNoBoard}
use Rattle.aces_files.specs.Outcomes.{Outcome, done, refused, past_limit}
use Rattle.aces_firmwares.specs.Firmwares.{IsNoFirmware, IsFirmware}
use Rattle.aces_firmwares.specs.PlanAnswer.{PlanAnswer}

-- the answer to `list` on the bytes of both files
pub data ListAnswer (firmware board : List ℕ) (policy : Policy) (bytes text : List ℕ) : Outcome → Type 0 where
  unplanned : (o : Outcome) → PlanAnswer firmware board policy bytes text o → ListAnswer firmware board policy bytes text o
  listed : (w : PlainFirmware) (b : Board) (lines : List ℕ) → IsFirmware w bytes → boards.IsRead text b → IsListing policy w b lines →
      ListAnswer firmware board policy bytes text (done 0 lines None)

-- the answer to `symbols` on the bytes of both files, which is refused as `list` is
pub data SymbolsAnswer (firmware board : List ℕ) (policy : Policy) (bytes text : List ℕ) : Outcome → Type 0 where
  untold : (o : Outcome) → PlanAnswer firmware board policy bytes text o → SymbolsAnswer firmware board policy bytes text o
  told : (w : PlainFirmware) (b : Board) (lines : List ℕ) → IsFirmware w bytes → boards.IsRead text b → AreSymbols policy w b lines →
      SymbolsAnswer firmware board policy bytes text (done 0 lines None)

-- the answer to `stack` on the bytes of both files: limits of what is compiled are tested, and no memory of the board is asked for room
pub data StackAnswers (firmware board : List ℕ) (policy : Policy) (bytes text : List ℕ) : Outcome → Type 0 where
  no_firmware : (f : Fault) → IsNoFirmware bytes f → StackAnswers firmware board policy bytes text (refused firmware f)
  no_board : (w : PlainFirmware) (f : Fault) → IsFirmware w bytes → IsNoBoard text f → StackAnswers firmware board policy bytes text (refused board f)
  too_many : (w : PlainFirmware) (b : Board) (which : LimitKind) (count : ℕ) → IsFirmware w bytes → boards.IsRead text b →
      IsRefusedBy policy w b (planning.Limit which count) → StackAnswers firmware board policy bytes text (past_limit which count)
  bounded : (w : PlainFirmware) (b : Board) (a : StackAnswer) → IsFirmware w bytes → boards.IsRead text b → IsStackBy policy w b a →
      StackAnswers firmware board policy bytes text (done (stack_status b.stack a) (stack_lines w b.stack a) None)

-- the answers to these requests
abbrev pub AnswerToList : (firmware board : List ℕ) → Policy → (Has : Origin → List ℕ → Type 0) (Exceeds : Origin → Type 0) → Outcome → Type 0
AnswerToList firmware board policy = AnswerByFiles (firmware_origin firmware) (file_origin board) (ListAnswer firmware board policy)

abbrev pub AnswerToSymbols : (firmware board : List ℕ) → Policy → (Has : Origin → List ℕ → Type 0) (Exceeds : Origin → Type 0) → Outcome → Type 0
AnswerToSymbols firmware board policy = AnswerByFiles (firmware_origin firmware) (file_origin board) (SymbolsAnswer firmware board policy)

abbrev pub AnswerToStack : (firmware board : List ℕ) → Policy → (Has : Origin → List ℕ → Type 0) (Exceeds : Origin → Type 0) → Outcome → Type 0
AnswerToStack firmware board policy = AnswerByFiles (firmware_origin firmware) (file_origin board) (StackAnswers firmware board policy)
