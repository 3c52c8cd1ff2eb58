-- Beyond the program's claim: only laws, proofs and functions inside the tool cite this file.
-- Watched runs as they are made and printed, step by step. Below, `answers` says of an event that the watch may give this answer on it.
use Rattle.std.specs.Prelude.{◌≡◌, ℕ, ◌+◌, ◌<◌, ◌≤◌, List, [], ◌++◌, Bool, Option, Some, None, IsTrue}
use Rattle.base_outside.specs.Counts.{Rose}
use Rattle.base_outside.specs.Contents.{AddsPrefix}
use Rattle.base_words.specs.Runs.{run}
use Rattle.machine_devices.specs.declared.image.Image.{Image}
use Rattle.machine_devices.specs.declared.image.Window.{Window}
use Rattle.base_events.specs.declared.event.Event.{Event}
use Rattle.machine_model.specs.State.{State}
use Rattle.machine_model.specs.Step.{step, event}
use Rattle.machine_watch.specs.declared.session.Pause.{Pause}
use Rattle.machine_watch.specs.declared.session.Pause.TheVariants.{Hit, Ended}
use Rattle.machine_watch.specs.Sessions.{SessionState}
use Rattle.machine_watch.specs.Watched.{MissesAll, IsPauseOf}
use Rattle.machine_lines.specs.Lines.{event_line, end_line, watch_line}
use Rattle.base_outside.specs.Sinks.{SinkState}
use Rattle.machine_output.specs.Runs.{event_lines, end_status}
use Rattle.machine_output.specs.Watches.{WatchedRun}

-- the line of a step: that of its event, if it made one
abbrev pub told_line : List Window → Option Event → List ℕ
told_line ws None = []
told_line ws (Some e) = event_line ws e

-- one step of a machine that goes on: what it told, and why the run pauses behind it, by a limit of one step
pub record IsStepped {F : Type 0} (answers : Event → Bool → Type 0) (old new : SessionState F) (told : Option Event) (p : Pause) : Type 0 where
  pub image : new.machine.image ≡ old.machine.image
  pub state : new.machine.state ≡ step old.machine.image old.machine.state
  pub taken : new.taken ≡ old.taken + 1
  pub callback : new.callback ≡ old.callback
  pub is_told : told ≡ event old.machine.image old.machine.state
  pub says : IsPauseOf answers old.machine.image 1 1 old.machine.state (step old.machine.image old.machine.state) p

-- a run of at most so many steps made this pause, and the lines of its events were printed
pub record IsPrinted (answers : Event → Bool → Type 0) (i : Image) (limit : ℕ) (s : State) (old new : SinkState) (p : Pause) : Type 0 where
  pub steps : ℕ
  pub few : steps ≤ limit
  pub says : IsPauseOf answers i limit steps s (run (step i) steps s) p
  pub faults : new.faults ≡ old.faults
  pub added : IsTrue old.told → new.written ≡ old.written ++ event_lines i steps s

-- a fault of the sink rose where the line of a step was put; on no event before it the watch answers true
pub record IsBroken (answers : Event → Bool → Type 0) (i : Image) (limit : ℕ) (s : State) (old new : SinkState) : Type 0 where
  pub before : ℕ
  pub few : before < limit
  pub misses : MissesAll answers i before s
  pub rose : Rose old.faults new.faults
  pub part : IsTrue old.told → (n : ℕ) → before < n → AddsPrefix old.written new.written (event_lines i n s)

-- the status of a run with this pause
abbrev pub pause_status : Pause → ℕ
pause_status (Hit e) = 0
pause_status (Ended e) = end_status e

-- the line of a pause
abbrev pub pause_line : (address : ℕ) → Pause → List ℕ
pause_line a (Hit e) = watch_line a
pause_line a (Ended e) = end_line e

-- all lines of a run that is watched for an access of an address were printed
pub record IsWhole (i : Image) (a limit : ℕ) (s : State) (old new : SinkState) (p : Pause) : Type 0 where
  pub printed : List ℕ
  pub is : WatchedRun i a limit s (pause_status p) printed
  pub faults : new.faults ≡ old.faults
  pub added : IsTrue old.told → new.written ≡ old.written ++ printed

-- a part of them was, and a fault of the sink rose
pub record IsPart (i : Image) (a limit : ℕ) (s : State) (old new : SinkState) : Type 0 where
  pub status : ℕ
  pub printed : List ℕ
  pub is : WatchedRun i a limit s status printed
  pub rose : Rose old.faults new.faults
  pub part : IsTrue old.told → AddsPrefix old.written new.written printed
