use Rattle.std.proofs.Common.{◌≡◌, ◌++◌, IsTrue}
use Rattle.ir_output.specs.SourceRuns.{event_lines}
use Rattle.ir_output.proofs.Sources.{HasRun}
use Rattle.ir_output.proofs.stepping.print_events.Given as goal

-- the run has made so many steps and has not ended, and the lines of their events are put
abbrev pub invariant-loop-step : goal.invariant-loop-step
invariant-loop-step g l = record {
  behind : HasRun l.fn.run.program l.fn.run.compartments l.fn.run.state l._step l.run;
  faults : g.O.Sink.faults l.out ≡ g.O.Sink.faults l.fn.out;
  written : IsTrue g.O.Sink.told → g.O.Sink.written l.out ≡ g.O.Sink.written l.fn.out ++ event_lines l.fn.run.program l.fn.run.compartments l.windows l._step l.fn.run.state;
}
