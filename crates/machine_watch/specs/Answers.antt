-- Beyond the program's claim: only laws, proofs and functions inside the tool cite this file.
-- What is known of a callback that is asked of events.
use Rattle.std.specs.Prelude.{◌≡◌, Bool}
use Rattle.base_events.specs.declared.event.Event.{Event}

-- its answers on equal events are equal
abbrev pub AnswersEqually : (answers : Event → Bool → Type 0) → Type 0
AnswersEqually answers = (e : Event) (a b : Bool) → answers e a → answers e b → a ≡ b
