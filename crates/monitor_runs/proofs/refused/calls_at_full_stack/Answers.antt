use Rattle.monitor_runs.proofs.WrongMonitors.{not_at_full_stack}
use Rattle.monitor_runs.proofs.refused.calls_at_full_stack.Goals as goal

pub returns : goal.returns
returns c = not_at_full_stack
