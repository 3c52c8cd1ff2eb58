use Rattle.std.proofs.Common.{◌≡◌}
use Rattle.base_words.specs.Runs.{run}
use Rattle.ir_model.specs.Step.{source_step}
use Rattle.aces_where.proofs.running.go.Given as goal

-- the steps so far
abbrev pub invariant-loop-step : goal.invariant-loop-step
invariant-loop-step l = record {
  program : l.run.program ≡ l.fn.run.program;
  compartments : l.run.compartments ≡ l.fn.run.compartments;
  state : l.run.state ≡ run (source_step l.fn.run.program l.fn.run.compartments) l._step l.fn.run.state;
  taken : l.run.taken ≡ l._step;
}
