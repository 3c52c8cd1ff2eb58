-- A run of the source from its start, on recorded input. `compartments` has a number for each function.
use Rattle.std.specs.Prelude.{ℕ, List}
use Rattle.base_words.specs.Runs.{run, events}
use Rattle.base_events.specs.declared.event.Event.{Event}
use Rattle.ir_model.specs.Resolved.{Program}
use Rattle.ir_model.specs.State.{SourceState, start}
use Rattle.ir_model.specs.Step.{source_step, source_event}

-- the state after so many steps
abbrev pub source_after : Program → (compartments : List ℕ) → (queues : List (List ℕ)) → (steps : ℕ) → SourceState
source_after p c queues n = run (source_step p c) n (start p queues)

-- the events of so many steps, in order
abbrev pub source_events : Program → (compartments : List ℕ) → (queues : List (List ℕ)) → (steps : ℕ) → List Event
source_events p c queues n = events (source_step p c) (source_event p c) n (start p queues)
