use Rattle.std.proofs.Common.{◌≡◌, ℕ, ◌≤◌, None}
use Rattle.base_words.specs.Runs.{run}
use Rattle.ir_model.specs.Step.{source_step}
use Rattle.ir_output.specs.SourceRuns.{ending_of}
use Rattle.ir_output.proofs.Sources.{HasRun}
use Rattle.aces_where.proofs.running.run_out.Given as goal

-- the run has made so many steps and goes on, as it did before each
abbrev pub invariant-loop-going : goal.invariant-loop-going
invariant-loop-going l = record {
  behind : HasRun l.fn.run.program l.fn.run.compartments l.fn.run.state l.going l.run;
  goes_on : (k : ℕ) → k ≤ l.going → ending_of (run (source_step l.fn.run.program l.fn.run.compartments) k l.fn.run.state) ≡ None;
}
