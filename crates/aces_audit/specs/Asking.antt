-- Beyond the program's claim: only laws, proofs and functions inside the tool cite this file.
-- What is asked of an image: what is printed of it, and the request that asks for it.
use Rattle.std.specs.Prelude.{ℕ, List}
use Rattle.machine_devices.specs.declared.image.Image.{Image}
use Rattle.machine_image.specs.Text.{IsText}
use Rattle.monitor_audit.specs.declared.answer.Audit.{Audit}
use Rattle.aces_words.specs.Requests as requests
use Rattle.aces_words.specs.Requests.{Request, Origin, file_origin}
use Rattle.aces_files.specs.Answers.{AnswerByFile}
use Rattle.aces_files.specs.Outcomes.{Outcome}
use Rattle.aces_audit.specs.Answers.{ImageAnswer, audit_text, tables_text}
use Rattle.aces_audit.specs.declared.asking.Asked.{Asked}
use Rattle.aces_audit.specs.declared.asking.Asked.TheVariants.{Answer, Tables}

-- an outcome that tells this text of an image, whichever bytes it is read from and whatever they are called
abbrev pub IsToldOf : (text : Image → Audit → List ℕ) → Image → Outcome → Type 0
IsToldOf text i o = (image bytes : List ℕ) → IsText i bytes → ImageAnswer text image bytes o

-- what is printed of an image with this answer, by what was asked
abbrev pub text_of : Asked → Image → Audit → List ℕ
text_of Answer = audit_text
text_of Tables = tables_text

abbrev pub request_of : Asked → (image : List ℕ) → Request
request_of Answer image = requests.Audit image
request_of Tables image = requests.Tables image

-- the answer to that request
abbrev pub AnswerToAsked : Asked → (image : List ℕ) (Has : Origin → List ℕ → Type 0) (Exceeds : Origin → Type 0) → Outcome → Type 0
AnswerToAsked asked image = AnswerByFile (file_origin image) (ImageAnswer (text_of asked) image)
