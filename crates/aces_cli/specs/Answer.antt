-- What a call answers where no call on the outside fails and memory does not run out: the status, what is printed, the
-- line that tells of a fault, and what is written.
use Rattle.std.specs.Prelude.{ℕ, List, [], Some}
use Rattle.aces_words.specs.Requests.{Request, Run, Bin, Compile, Check, Source, Where, Listing, Stack, Audit, Tables, Who, Symbols, Help, Selftest, Watch, State, Why, Explain, ExplainPlan, Asks, IsUsage, Origin, file_origin, firmware_origin}
use Rattle.ir_model.specs.Plain.{PlainFirmware}
use Rattle.aces_cli.specs.Compiled.{IsImageText}
use Rattle.plan_model.specs.declared.policy.Policy.{Policy}
use Rattle.plan_model.specs.declared.plan.Board.{Board}
use Rattle.plan_board.specs.Reading as boards
use Rattle.aces_firmwares.specs.Firmwares.{IsFirmware}
use Rattle.aces_files.specs.Outcomes.{Outcome, done, usage}
use Rattle.aces_files.specs.Answers.{AnswerByFiles, AnswerToRun, AnswerToBin}
use Rattle.aces_audit.specs.Answers.{AnswerToAudit, AnswerToTables}
use Rattle.aces_firmwares.specs.Answers.{AnswerToCheck, AnswerToSource}
use Rattle.aces_who.specs.Answers.{AnswerToWho, AnswerToHelp}
use Rattle.aces_inspection.specs.Answers.{AnswerToWatch, AnswerToState}
use Rattle.aces_why.specs.Answers.{AnswerToWhy}
use Rattle.aces_where.specs.Answers.{AnswerToWhere}
use Rattle.aces_selftest.specs.Answers.{AnswerToSelftest}
use Rattle.aces_explain.specs.Answers.{AnswerToExplain}
use Rattle.aces_explain.specs.Plans.{AnswerToExplainPlan}
use Rattle.aces_firmwares.specs.PlanAnswer.{PlanAnswer}
use Rattle.aces_plans.specs.Answers.{AnswerToList, AnswerToStack, AnswerToSymbols}

-- the answer to `compile` on the bytes of both files
pub data CompileAnswer (firmware board : List ℕ) (policy : Policy) (image bytes text : List ℕ) : Outcome → Type 0 where
  unplanned : (o : Outcome) → PlanAnswer firmware board policy bytes text o → CompileAnswer firmware board policy image bytes text o
  compiled : (w : PlainFirmware) (b : Board) (out : List ℕ) → IsFirmware w bytes → boards.IsRead text b → IsImageText policy w b out →
      CompileAnswer firmware board policy image bytes text (done 0 [] (Some (record { name = image; bytes = out })))

-- the answer to that request
abbrev pub AnswerToCompile : (firmware board : List ℕ) → Policy → (image : List ℕ) → (Has : Origin → List ℕ → Type 0) (Exceeds : Origin → Type 0) → Outcome → Type 0
AnswerToCompile firmware board policy image = AnswerByFiles (firmware_origin firmware) (file_origin board) (CompileAnswer firmware board policy image)

-- the answer to a request
abbrev pub Answer : Request → (Has : Origin → List ℕ → Type 0) (Exceeds : Origin → Type 0) → Outcome → Type 0
Answer (Run image tape steps) = AnswerToRun image tape steps
Answer (Bin image file) = AnswerToBin image file
Answer (Compile firmware board policy image) = AnswerToCompile firmware board policy image
Answer (Check firmware) = AnswerToCheck firmware
Answer (Source firmware policy tape steps) = AnswerToSource firmware policy tape steps
Answer (Where firmware policy tape steps) = AnswerToWhere firmware policy tape steps
Answer (Listing firmware board policy) = AnswerToList firmware board policy
Answer (Stack firmware board policy) = AnswerToStack firmware board policy
Answer (Audit image) = AnswerToAudit image
Answer (Tables image) = AnswerToTables image
Answer (Who firmware board policy) = AnswerToWho firmware board policy
Answer (Symbols firmware board policy) = AnswerToSymbols firmware board policy
Answer Help = AnswerToHelp
Answer (Selftest seed size) = AnswerToSelftest seed size
Answer (Watch image tape steps address) = AnswerToWatch image tape steps address
Answer (State image tape steps) = AnswerToState image tape steps
Answer (Why firmware) = AnswerToWhy firmware
Answer (Explain firmware) = AnswerToExplain firmware
Answer (ExplainPlan firmware board policy) = AnswerToExplainPlan firmware board policy

-- the answer to any words
pub data Answers (Has : Origin → List ℕ → Type 0) (Exceeds : Origin → Type 0) (words : List (List ℕ)) : Outcome → Type 0 where
  no_request : IsUsage words → Answers Has Exceeds words usage
  to_request : (r : Request) (o : Outcome) → Asks words r → Answer r Has Exceeds o → Answers Has Exceeds words o
