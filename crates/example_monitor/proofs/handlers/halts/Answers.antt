use Rattle.example_monitor.proofs.Handled.{computes_halts}
use Rattle.example_monitor.proofs.handlers.halts.Goals as goal

pub returns : goal.returns
returns c = computes_halts
