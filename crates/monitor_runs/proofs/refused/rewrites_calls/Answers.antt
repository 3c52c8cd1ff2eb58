use Rattle.monitor_runs.proofs.WrongMonitors.{not_rewritten}
use Rattle.monitor_runs.proofs.refused.rewrites_calls.Goals as goal

pub returns : goal.returns
returns c = not_rewritten
