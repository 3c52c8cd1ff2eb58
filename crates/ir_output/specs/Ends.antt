-- Beyond the program's claim: only laws, proofs and functions inside the tool cite this file.
-- Ends of runs as the definition's, and why a run was broken off.
use Rattle.std.specs.Prelude.{◌≡◌, ℕ, Option, Some, None}
use Rattle.base_outside.specs.Counts.{Rose}
use Rattle.ir_model.specs.State as state
use Rattle.ir_run.specs.declared.outcome.SourceEnd.{SourceEnd}
use Rattle.ir_run.specs.Acts.{end_of}
use Rattle.ir_output.specs.declared.Broken.{Broken}
use Rattle.ir_output.specs.declared.Broken.TheVariants.{Unprinted, NoMemory}

abbrev pub seen_end : Option SourceEnd → Option state.SourceEnd
seen_end None = None
seen_end (Some e) = Some (end_of e)

-- a line was not put where a fault of the sink rose; where memory ran out none did
abbrev pub IsCause : (faults_before faults_after : ℕ) → Broken → Type 0
IsCause b a Unprinted = Rose b a
IsCause b a NoMemory = a ≡ b
