-- Beyond the program's claim: only laws, proofs and functions inside the tool cite this file.
-- The state of a run as the definition's.
use Rattle.std.specs.Prelude.{◌≡◌, ◌∷◌, suc, map, Some, None}
use Rattle.ir_model.specs.State as state
use Rattle.ir_program.specs.Values.{value_of}
use Rattle.ir_run.specs.declared.parts.Parts as parts
use Rattle.ir_run.specs.Acts.{frame_of, end_of}
use Rattle.ir_run.specs.declared.outcome.SourceStep.{SourceStep}
use Rattle.ir_run.specs.declared.outcome.SourceStep.TheVariants.{Ran, Event, Ended}

abbrev pub memory_of : parts.Parts → state.Memory
memory_of s = record { globals = map (map value_of) s.globals; queues = s.tape; made = suc s.newest }

abbrev pub running_of : parts.Parts → state.SourceState
running_of s = state.Running (frame_of s.top ∷ map frame_of s.below) (memory_of s)

-- what a step answers, and the state that it leaves
abbrev pub Answers : state.SourceTurn → SourceStep → parts.Parts → Type 0
Answers t Ran s = (t.to ≡ running_of s) × (t.event ≡ None)
Answers t (Event e) s = (t.to ≡ running_of s) × (t.event ≡ Some e)
Answers t (Ended e) s = (t.to ≡ state.Ended (end_of e)) × (t.event ≡ None)
