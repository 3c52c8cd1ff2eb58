use Rattle.example_monitor.proofs.Faults.{computes_faults}
use Rattle.example_monitor.proofs.outcomes.faults.Goals as goal

pub returns : goal.returns
returns c = computes_faults
