-- Beyond the program's claim: only laws, proofs and functions inside the tool cite this file.
-- Statements of laws.
use Rattle.std.specs.Prelude.{◌≡◌, length}
use Rattle.machine_devices.specs.declared.image.Image.{Image}
use Rattle.monitor_model.specs.declared.tables.Tables.{Tables}
use Rattle.monitor_program.specs.TheCode.{monitor_code}
use Rattle.monitor_model.specs.Sound.{Sound}
use Rattle.monitor_audit.specs.declared.answer.Audit.{Audit}
use Rattle.monitor_audit.specs.declared.answer.Audit.TheVariants.{Yes}
use Rattle.monitor_audit.specs.Answers.{IsAudit}

-- an image has one answer
abbrev pub AnswersAreUnique : Type 0
AnswersAreUnique = (i : Image) (a b : Audit) → IsAudit i a → IsAudit i b → a ≡ b

-- a sound image is answered yes, by whichever tables it is sound
abbrev pub SoundImagesAreAnsweredYes : Type 0
SoundImagesAreAnsweredYes = (i : Image) (t : Tables) (a : Audit) → Sound monitor_code i t → IsAudit i a → a ≡ Yes (length t.comps) (length t.sites)
