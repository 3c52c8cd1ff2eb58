use Rattle.aces_selftest.proofs.SourceTurns.{Runs}
use Rattle.aces_selftest.proofs.sources.count_source.Given as goal

-- so many steps were made, none ended the run, and what they told is kept
abbrev pub invariant-loop-made : goal.invariant-loop-made
invariant-loop-made l = Runs l.fn.run.program l.fn.run.compartments l.fn.run.state l.made l.run l.events.items
