-- Watched runs: at most so many steps, up to and with the first that makes an event on which a watch answers true.
use Rattle.std.specs.Prelude.{◌≡◌, ℕ, suc, ◌+◌, ◌<◌, ◌≤◌, Bool, true, false, Some, None}
use Rattle.std.specs.List.{FoldsTo}
use Rattle.base_words.specs.Runs.{run, events}
use Rattle.machine_devices.specs.declared.image.Image.{Image}
use Rattle.base_events.specs.declared.event.Event.{Event}
use Rattle.machine_model.specs.declared.state.End.{End}
use Rattle.machine_model.specs.declared.state.End.TheVariants.{Halt, InputEnd, Limit, Stop, Refused}
use Rattle.machine_model.specs.State.{State}
use Rattle.machine_model.specs.Step.{step, event}
use Rattle.machine_watch.specs.declared.session.Pause.{Pause}
use Rattle.machine_watch.specs.declared.session.Pause.TheVariants.{Hit, Ended}
use Rattle.machine_watch.specs.Sessions.{SessionState}

-- Below, `answers` says of an event that the watch may give this answer on it.

-- the watch answers false on each event of so many steps from a state
abbrev pub MissesAll : (answers : Event → Bool → Type 0) → Image → (steps : ℕ) → State → Type 0
MissesAll answers i n s = (k : ℕ) (e : Event) → k < n → event i (run (step i) k s) ≡ Some e → answers e false

-- it answers false on each but that of the last step, which makes this event, and true there
pub record HitsLast (answers : Event → Bool → Type 0) (i : Image) (steps : ℕ) (s : State) (e : Event) : Type 0 where
  pub before : ℕ
  pub last : steps ≡ suc before
  pub misses : MissesAll answers i before s
  pub makes : event i (run (step i) before s) ≡ Some e
  pub hits : answers e true

-- the end of so many steps that lead to a state: as the machine has ended, or by the limit; never by a refusal
abbrev pub EndsBy : (limit steps : ℕ) → State → End → Type 0
EndsBy limit n t (Halt k) = t.ending ≡ Some (Halt k)
EndsBy limit n t InputEnd = t.ending ≡ Some InputEnd
EndsBy limit n t Limit = (n ≡ limit) × (t.ending ≡ None)
EndsBy limit n t (Stop r a) = t.ending ≡ Some (Stop r a)
EndsBy limit n t Refused = ⊥

-- what a pause says of so many steps from one state to another
abbrev pub IsPauseOf : (answers : Event → Bool → Type 0) → Image → (limit steps : ℕ) → (old new : State) → Pause → Type 0
IsPauseOf answers i limit n s t (Hit e) = HitsLast answers i n s e
IsPauseOf answers i limit n s t (Ended e) = EndsBy limit n t e × MissesAll answers i n s

-- A piece of the plain run: so many steps of the machine from one session to another, whose events are given in turn; `calls` says
-- that what an event is given to may go from one state to another.
pub record IsPiece {F G : Type 0} (calls : G → Event → G → Type 0) (steps : ℕ) (old new : SessionState F) (f g : G) : Type 0 where
  pub counted : new.taken ≡ old.taken + steps
  pub same_image : new.machine.image ≡ old.machine.image
  pub leads : run (step old.machine.image) steps old.machine.state ≡ new.machine.state
  pub given : FoldsTo calls f (events (step old.machine.image) (event old.machine.image) steps old.machine.state) g

-- what `go` does of a session: a piece of the run, each step of which the machine makes before it has ended
pub record IsWatched {F G : Type 0} (answers : Event → Bool → Type 0) (calls : G → Event → G → Type 0) (limit : ℕ)
    (old new : SessionState F) (f g : G) (p : Pause) : Type 0 where
  pub steps : ℕ
  pub few : steps ≤ limit
  pub piece : IsPiece calls steps old new f g
  pub same_callback : new.callback ≡ old.callback
  pub goes_on : (k : ℕ) → k < steps → (run (step old.machine.image) k old.machine.state).ending ≡ None
  pub says : IsPauseOf answers old.machine.image limit steps old.machine.state new.machine.state p

-- two pieces one after the other are one, and where another watch is taken nothing is run
pub record PiecesJoin (F : Type 0) {G : Type 0} (calls : G → Event → G → Type 0) : Type 0 where
  pub join : (j k : ℕ) (a b c : SessionState F) (f g h : G) → IsPiece calls j a b f g → IsPiece calls k b c g h → IsPiece calls (j + k) a c f h
  pub change : (a : SessionState F) (callback : F) (f : G) → IsPiece calls 0 a (record a { callback = callback }) f f
