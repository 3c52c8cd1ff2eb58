-- What is printed of a run, and how it ends.
use Rattle.std.specs.Prelude.{ℕ, ◌<◌, ◌≤◌, length, suc, zero, List, ◌++◌, flat_map, unwrap_or}
use Rattle.base_words.specs.Runs.{run, events}
use Rattle.machine_devices.specs.declared.image.Image.{Image}
use Rattle.machine_devices.specs.declared.image.Window.{Window}
use Rattle.base_events.specs.declared.event.Event.{Event}
use Rattle.machine_model.specs.declared.state.End.{End}
use Rattle.machine_model.specs.declared.state.End.TheVariants.{Halt, InputEnd, Limit, Stop, Refused}
use Rattle.machine_model.specs.State.{State}
use Rattle.machine_model.specs.Step.{step, event}
use Rattle.machine_lines.specs.Lines.{name_of, event_line, end_line}

-- the byte that RAM holds at the start of a run
abbrev pub fill : ℕ
fill = 0xA5

-- an event of a window whose name is short enough for a line, as are all events of a machine
pub record HasLine (windows : List Window) (e : Event) : Type 0 where
  pub known : e.periph < length windows
  pub short : length (name_of windows e.periph) ≤ 64

-- how so many steps from a state end: as the machine has ended, or by the limit
abbrev pub end_of : Image → (steps : ℕ) → State → End
end_of i n s = unwrap_or (run (step i) n s).ending Limit

-- the lines of the events of so many steps from a state
abbrev pub event_lines : Image → (steps : ℕ) → State → List ℕ
event_lines i n s = flat_map (event_line i.windows) (events (step i) (event i) n s)

-- and the line of their end behind them
abbrev pub run_lines : Image → (steps : ℕ) → State → List ℕ
run_lines i n s = event_lines i n s ++ end_line (end_of i n s)

-- the status by the end: 7 for a stop and for a halt other than 0
abbrev pub end_status : End → ℕ
end_status (Halt zero) = 0
end_status (Halt (suc k)) = 7
end_status InputEnd = 0
end_status Limit = 0
end_status (Stop reason pc) = 7
end_status Refused = 0
