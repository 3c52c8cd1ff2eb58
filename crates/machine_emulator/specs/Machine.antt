-- Beyond the program's claim: only laws, proofs and functions inside the tool cite this file.
-- A machine as callers see it, what a step answers, and what a run of steps does and answers.
use Rattle.std.specs.Prelude.{◌≡◌, ℕ, suc, ◌≤◌, Bool, true, false, List, Option, Some, None}
use Rattle.std.specs.List.{FoldsTo}
use Rattle.base_words.specs.Runs.{run, events}
use Rattle.machine_devices.specs.declared.image.Image.{Image}
use Rattle.base_events.specs.declared.event.Event.{Event}
use Rattle.machine_devices.specs.Rules.{ObeysRules}
use Rattle.machine_model.specs.declared.state.End.{End}
use Rattle.machine_model.specs.declared.state.End.TheVariants.{Halt, InputEnd, Limit, Stop, Refused}
use Rattle.machine_emulator.specs.declared.Step.{Step}
use Rattle.machine_emulator.specs.declared.Step.TheVariants.{Ran, Event as Told, Ended}
use Rattle.machine_model.specs.State.{State, Turn}
use Rattle.machine_model.specs.Shape.{StateFits}
use Rattle.machine_model.specs.Ends.{IsOwn}
use Rattle.machine_model.specs.Step.{step, event}

-- the image that a machine was started from, and its state
pub record MachineState : Type 0 where
  pub image : Image
  pub state : State

abbrev pub HasOwn : Option End → Type 0
HasOwn None = Unit {0}
HasOwn (Some e) = IsOwn e

-- a machine over an image that obeys the rules
pub record IsMachine (m : MachineState) : Type 0 where
  pub rules : ObeysRules m.image
  pub fits : StateFits m.image m.state
  pub own : HasOwn m.state.ending

-- a step's answer: the end of the machine, else the step's event
abbrev pub answer_by : Option End → Option Event → Step
answer_by (Some e) x = Ended e
answer_by None (Some x) = Told x
answer_by None None = Ran

abbrev pub answer : Turn → Step
answer t = answer_by t.to.ending t.event

-- Below, `calls` says of a callback's state that its call with an event may give this answer and leave this state.

-- it is called with each of the events in turn, and answers true each time
abbrev pub Accepts : {G : Type 0} (calls : G → Event → Bool → G → Type 0) → G → List Event → G → Type 0
Accepts calls f es g = FoldsTo (λ p e q. calls p e true q) f es g

-- it accepts all that so many steps tell
abbrev pub AcceptsAll : {G : Type 0} (calls : G → Event → Bool → G → Type 0) → Image → (steps : ℕ) → State → G → G → Type 0
AcceptsAll calls i n s f g = Accepts calls f (events (step i) (event i) n s) g

-- it accepts what all of these steps but the last tell, and then refuses the event of the last
pub record RefusesLast {G : Type 0} (calls : G → Event → Bool → G → Type 0) (i : Image) (steps : ℕ) (s : State) (f g : G) : Type 0 where
  pub before : ℕ
  pub last : steps ≡ suc before
  pub refused : Event
  pub told : event i (run (step i) before s) ≡ Some refused
  pub between : G
  pub accepts : AcceptsAll calls i before s f between
  pub refuses : calls between refused false g

-- what the answer says of a run of so many steps from one state to another
abbrev pub IsEndOf : {G : Type 0} (calls : G → Event → Bool → G → Type 0) → Image → (limit steps : ℕ) → (old new : State) → G → G → End → Type 0
IsEndOf calls i limit n s t f g (Halt k) = (t.ending ≡ Some (Halt k)) × AcceptsAll calls i n s f g
IsEndOf calls i limit n s t f g InputEnd = (t.ending ≡ Some InputEnd) × AcceptsAll calls i n s f g
IsEndOf calls i limit n s t f g Limit = (n ≡ limit) × (t.ending ≡ None) × AcceptsAll calls i n s f g
IsEndOf calls i limit n s t f g (Stop r a) = (t.ending ≡ Some (Stop r a)) × AcceptsAll calls i n s f g
IsEndOf calls i limit n s t f g Refused = (t.ending ≡ None) × RefusesLast calls i n s f g

-- a run of at most so many steps, which took the callback from one state to another
pub record IsRun {G : Type 0} (calls : G → Event → Bool → G → Type 0) (limit : ℕ) (old new : MachineState) (f g : G) (e : End) : Type 0 where
  pub steps : ℕ
  pub few : steps ≤ limit
  pub same_image : new.image ≡ old.image
  pub leads : run (step old.image) steps old.state ≡ new.state
  pub says : IsEndOf calls old.image limit steps old.state new.state f g e
