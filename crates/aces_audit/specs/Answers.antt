-- What `audit` and `tables` answer where no call on the outside fails and memory does not run out.
use Rattle.std.specs.Prelude.{ℕ, List, None}
use Rattle.machine_devices.specs.declared.image.Image.{Image}
use Rattle.machine_image.specs.Text.{IsText}
use Rattle.monitor_audit.specs.declared.answer.Audit.{Audit}
use Rattle.monitor_audit.specs.declared.answer.Audit.TheVariants.{Yes, No}
use Rattle.monitor_audit.specs.Answers.{own_tables, IsAudit}
use Rattle.aces_audit.specs.TableLines.{table_lines}
use Rattle.aces_reports.specs.declared.failure.Fault.{Fault}
use Rattle.aces_words.specs.Requests.{Origin, file_origin}
use Rattle.aces_files.specs.Answers.{AnswerByFile}
use Rattle.aces_files.specs.Contents.{IsNoImage}
use Rattle.aces_files.specs.Outcomes.{Outcome, done, refused}
use Rattle.aces_audit.specs.AnswerLine.{answer_line, answer_status}
use Rattle.aces_audit.specs.Guarded.{IsGuardedWhereYes}

-- an answer on the bytes of the image, by what is printed of the image and of what the checks find: what they find, and what holds of an image that is
-- answered yes
pub data ImageAnswer (text : Image → Audit → List ℕ) (image : List ℕ) (bytes : List ℕ) : Outcome → Type 0 where
  no_image : (f : Fault) → IsNoImage bytes f → ImageAnswer text image bytes (refused image f)
  told : (i : Image) (a : Audit) → IsText i bytes → IsAudit i a → IsGuardedWhereYes i a → ImageAnswer text image bytes (done (answer_status a) (text i a) None)

-- what `audit` prints of an image with this answer
abbrev pub audit_text : Image → Audit → List ℕ
audit_text i a = answer_line a

-- what `tables` prints of it: what the tables say, where `audit` says yes, and else the line of `audit`
abbrev pub tables_text : Image → Audit → List ℕ
tables_text i (Yes compartments sites) = table_lines i (own_tables i)
tables_text i (No check at) = answer_line (No check at)

-- the answers to `audit` and to `tables` on the bytes of the image
abbrev pub AuditAnswer : (image bytes : List ℕ) → Outcome → Type 0
AuditAnswer = ImageAnswer audit_text

abbrev pub TablesAnswer : (image bytes : List ℕ) → Outcome → Type 0
TablesAnswer = ImageAnswer tables_text

-- the answers to both requests
abbrev pub AnswerToAudit : (image : List ℕ) (Has : Origin → List ℕ → Type 0) (Exceeds : Origin → Type 0) → Outcome → Type 0
AnswerToAudit image = AnswerByFile (file_origin image) (AuditAnswer image)

abbrev pub AnswerToTables : (image : List ℕ) (Has : Origin → List ℕ → Type 0) (Exceeds : Origin → Type 0) → Outcome → Type 0
AnswerToTables image = AnswerByFile (file_origin image) (TablesAnswer image)
