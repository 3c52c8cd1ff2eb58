-- What is printed of a run of the source, and how it ends.
use Rattle.std.specs.Prelude.{ℕ, List, ◌++◌, flat_map, codes, Option, Some, None}
use Rattle.base_words.specs.Runs.{run, events}
use Rattle.machine_devices.specs.declared.image.Window.{Window}
use Rattle.ir_model.specs.Plain.{PlainFirmware}
use Rattle.ir_model.specs.Resolved.{Program}
use Rattle.ir_model.specs.Resolve.{resolve}
use Rattle.ir_model.specs.State.{SourceFault, NullFault, DeadFault, NoCellFault, ConstantFault, SourceEnd, Returned, OutOfInput, Faulted, SourceState, Running, Ended, start}
use Rattle.ir_model.specs.Step.{source_step, source_event}
use Rattle.ir_model.specs.Runs.{source_after, source_events}
use Rattle.ir_program.specs.Windows.{windows_of}
use Rattle.ir_run.specs.Runs.{RunState}
use Rattle.machine_lines.specs.Lines.{event_line, line_feed}

-- how a run has ended, if it has
abbrev pub ending_of : SourceState → Option SourceEnd
ending_of (Running frames m) = None
ending_of (Ended e) = Some e

abbrev pub fault_word : SourceFault → List ℕ
fault_word NullFault = codes "null"
fault_word DeadFault = codes "dead"
fault_word NoCellFault = codes "no-cell"
fault_word ConstantFault = codes "const"

-- the line of the end of a run of so many steps; where it has not ended, that of the limit
abbrev pub end_line : Option SourceEnd → List ℕ
end_line None = codes "end limit" ++ line_feed
end_line (Some Returned) = codes "end halt 0" ++ line_feed
end_line (Some OutOfInput) = codes "end input" ++ line_feed
end_line (Some (Faulted f)) = codes "end fault " ++ fault_word f ++ line_feed

-- the status by the end: 7 for a fault
abbrev pub end_status : Option SourceEnd → ℕ
end_status None = 0
end_status (Some Returned) = 0
end_status (Some OutOfInput) = 0
end_status (Some (Faulted f)) = 7

-- so many steps of a program from a state: how they end, and the lines of their events
module _ (p : Program) (compartments : List ℕ) where
  abbrev pub end_of : (steps : ℕ) → SourceState → Option SourceEnd
  end_of n s = ending_of (run (source_step p compartments) n s)

  abbrev pub event_lines : List Window → (steps : ℕ) → SourceState → List ℕ
  event_lines windows n s = flat_map (event_line windows) (events (source_step p compartments) (source_event p compartments) n s)

-- the run of a firmware with the compartments of its functions and the words that its peripherals give, before its first step
abbrev pub source_run : PlainFirmware → (compartments : List ℕ) → (queues : List (List ℕ)) → RunState
source_run w compartments queues = record { program = resolve w; compartments = compartments; state = start (resolve w) queues; taken = 0 }

-- a firmware, the compartments of its functions, the words that its peripherals give, and how many steps are made
module _ (w : PlainFirmware) (compartments : List ℕ) (queues : List (List ℕ)) (steps : ℕ) where
  abbrev pub source_end : Option SourceEnd
  source_end = ending_of (source_after (resolve w) compartments queues steps)

  abbrev pub source_event_lines : List ℕ
  source_event_lines = flat_map (event_line (windows_of w)) (source_events (resolve w) compartments queues steps)

  -- the lines of the events, and that of the end behind them
  abbrev pub source_lines : List ℕ
  source_lines = source_event_lines ++ end_line source_end

  abbrev pub source_status : ℕ
  source_status = end_status source_end
