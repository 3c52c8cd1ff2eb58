use Rattle.monitor_runs.proofs.WrongMonitors.{not_beyond_the_stack}
use Rattle.monitor_runs.proofs.refused.starts_beyond_the_stack.Goals as goal

pub returns : goal.returns
returns c = not_beyond_the_stack
