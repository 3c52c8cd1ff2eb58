-- Beyond the program's claim: only laws, proofs and functions inside the tool cite this file.
-- What is told of the bytes of a firmware, and the firmware where they have no fault.
use Rattle.std.specs.Prelude.{ℕ, List, None}
use Rattle.ir_model.specs.Plain.{firmware_of}
use Rattle.aces_files.specs.Outcomes.{done}
use Rattle.aces_files.specs.Tellings.{told_outcome}
use Rattle.aces_firmwares.specs.Firmwares.{IsFirmware}
use Rattle.aces_files.specs.declared.telling.CommandOutput.{CommandOutput}
use Rattle.aces_explain.specs.declared.telling.Explained.{Explained}
use Rattle.aces_explain.specs.declared.telling.Explained.TheVariants.{Faulty, Fine}
use Rattle.aces_explain.specs.Answers.{ExplainAnswer}

-- the lines of their first fault, or the firmware of which they are the text
abbrev pub IsExplained : (firmware bytes : List ℕ) → Explained → Type 0
IsExplained firmware bytes (Faulty lines) = ExplainAnswer firmware bytes (done 1 lines.items None)
IsExplained firmware bytes (Fine checked) = IsFirmware (firmware_of checked) bytes

-- lines that are an answer, with how the command ends
abbrev pub IsTold : (firmware bytes : List ℕ) → CommandOutput → Type 0
IsTold firmware bytes t = ExplainAnswer firmware bytes (told_outcome t)
