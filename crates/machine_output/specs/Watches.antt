-- Runs that end at an access of one address: how they end, and what is printed of them.
use Rattle.std.specs.Prelude.{◌≡◌, ℕ, ◌+◌, ◌≤◌, List, ◌++◌, Bool, false, Option, Some, None, slice_get}
use Rattle.machine_devices.specs.declared.image.Image.{Image}
use Rattle.machine_devices.specs.declared.image.Window.{Window}
use Rattle.base_events.specs.declared.event.Event.{Event}
use Rattle.machine_bus.specs.Locations.{inside}
use Rattle.machine_model.specs.State.{State}
use Rattle.machine_watch.specs.Watched.{MissesAll, HitsLast}
use Rattle.machine_lines.specs.Lines.{watch_line}
use Rattle.machine_output.specs.Runs.{end_of, event_lines, run_lines, end_status}

-- whether an event is an access of this address: it is one of a window, and its bytes from the window's base and the offset on have the
-- address among them
abbrev pub accesses_in : Option Window → (address : ℕ) → Event → Bool
accesses_in (Some w) a e = inside (w.base + e.offset) e.width a
accesses_in None a e = false

abbrev pub accesses : List Window → (address : ℕ) → Event → Bool
accesses ws a e = accesses_in (slice_get ws e.periph) a e

-- what is answered of an event
abbrev pub AnswersAt : List Window → (address : ℕ) → Event → Bool → Type 0
AnswersAt ws a e b = b ≡ accesses ws a e

-- the status and the lines of a run from a state, of at most so many steps, that is watched for an access of this address
pub data WatchedRun (i : Image) (a limit : ℕ) (s : State) : (status : ℕ) → (printed : List ℕ) → Type 0 where
  hit : (n : ℕ) (e : Event) → n ≤ limit → HitsLast (AnswersAt i.windows a) i n s e → WatchedRun i a limit s 0 (event_lines i n s ++ watch_line a)
  missed : MissesAll (AnswersAt i.windows a) i limit s → WatchedRun i a limit s (end_status (end_of i limit s)) (run_lines i limit s)
