use Rattle.example_monitor.proofs.Calls.{computes_calls}
use Rattle.example_monitor.proofs.outcomes.calls.Goals as goal

pub returns : goal.returns
returns c = computes_calls
