use Rattle.example_monitor.proofs.Handled.{computes_calls}
use Rattle.example_monitor.proofs.handlers.calls.Goals as goal

pub returns : goal.returns
returns c = computes_calls
