-- Beyond the program's claim: only laws, proofs and functions inside the tool cite this file.
-- How far a run is, as the definition's state.
use Rattle.ir_model.specs.State as state
use Rattle.ir_run.specs.declared.run.Phase.{Phase}
use Rattle.ir_run.specs.declared.run.Phase.TheVariants.{Running, Ended}
use Rattle.ir_run.specs.Acts.{end_of}
use Rattle.ir_run.specs.States.{running_of}

abbrev pub state_of : Phase → state.SourceState
state_of (Running parts) = running_of parts
state_of (Ended e) = state.Ended (end_of e)
