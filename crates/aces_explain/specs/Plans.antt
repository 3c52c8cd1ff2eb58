-- What `explain` answers with a board and a policy, where no call on the outside fails and memory does not run out.
use Rattle.std.specs.Prelude.{◌≡◌, ℕ, List, None, false}
use Rattle.plan_model.specs.declared.policy.Policy.{Policy}
use Rattle.aces_words.specs.Requests.{Origin, file_origin, firmware_origin}
use Rattle.ir_model.specs.Plain.{PlainFirmware}
use Rattle.ir_model.specs.Resolve.{resolve}
use Rattle.plan_model.specs.declared.needs.Needs.{Needs}
use Rattle.plan_model.specs.declared.plan.Board.{Board}
use Rattle.plan_board.specs.declared.fault.BoardFault.{BoardFault}
use Rattle.plan_board.specs.Reading as boards
use Rattle.plan_compartments.specs.Analyses.{AreNeedsOf}
use Rattle.plan_compartments.specs.Divisions.{division}
use Rattle.plan.specs.declared.refusal.PlanningRefusal.{PlanningRefusal}
use Rattle.plan.specs.declared.refusal.PlanningRefusal.TheVariants.{NoMemory, Limit, Denied, Room}
use Rattle.plan.specs.Refusals.{IsPlanningRefusal}
use Rattle.plan_firmwares.specs.Plannable.{IsPlannable}
use Rattle.aces_explain.specs.BoardTold.{board_told}
use Rattle.aces_explain.specs.PlanTold.{IsRefusalTold}
use Rattle.aces_reports.specs.declared.failure.Fault.TheVariants as faults
use Rattle.aces_reports.specs.Faults.{is_want_of_memory}
use Rattle.aces_files.specs.Answers.{AnswerByFiles}
use Rattle.aces_files.specs.Outcomes.{Outcome, done}
use Rattle.aces_firmwares.specs.Counts.{count_line}
use Rattle.aces_firmwares.specs.Firmwares.{IsFirmware}
use Rattle.aces_explain.specs.Answers.{ExplainAnswer}

-- the status with which `list` refuses a firmware for this reason
abbrev pub refusal_status : PlanningRefusal → ℕ
refusal_status NoMemory = 6
refusal_status (Limit k count) = 1
refusal_status (Denied m) = 3
refusal_status (Room lack) = 3

-- what is told of a firmware on a board by a policy: why it has no plan, in the compartments of the policy and by the needs on a board of its
-- kind; or the counts of the firmware
pub data IsPlanTold (policy : Policy) (w : PlainFirmware) (b : Board) : (status : ℕ) → (lines : List ℕ) → Type 0 where
  unplanned : (n : Needs) (r : PlanningRefusal) (lines : List ℕ) → AreNeedsOf w b.closed n → IsPlanningRefusal (resolve w) n (division policy w n) b r
      → IsRefusalTold w (resolve w) n (division policy w n) b r lines → IsPlanTold policy w b (refusal_status r) lines
  planned : IsPlannable policy w b → IsPlanTold policy w b 0 (count_line w)

-- the answer on the bytes of both files: the firmware's fault as it is told without a board, else the board's, else what is told of both
pub data ExplainPlanAnswer (firmware board : List ℕ) (policy : Policy) (bytes text : List ℕ) : Outcome → Type 0 where
  no_firmware : (lines : List ℕ) → ExplainAnswer firmware bytes (done 1 lines None) → ExplainPlanAnswer firmware board policy bytes text (done 1 lines None)
  no_board : (w : PlainFirmware) (f : BoardFault) → IsFirmware w bytes → is_want_of_memory (faults.Board f) ≡ false → boards.IsFault text f →
      ExplainPlanAnswer firmware board policy bytes text (done 1 (board_told board text f) None)
  told : (w : PlainFirmware) (b : Board) (status : ℕ) (lines : List ℕ) → IsFirmware w bytes → boards.IsRead text b → IsPlanTold policy w b status lines →
      ExplainPlanAnswer firmware board policy bytes text (done status lines None)

-- the answer to the request
abbrev pub AnswerToExplainPlan : (firmware board : List ℕ) → Policy → (Has : Origin → List ℕ → Type 0) (Exceeds : Origin → Type 0) → Outcome → Type 0
AnswerToExplainPlan firmware board policy = AnswerByFiles (firmware_origin firmware) (file_origin board) (ExplainPlanAnswer firmware board policy)
