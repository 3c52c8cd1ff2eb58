use Rattle.monitor_runs.proofs.WrongMonitors.{not_skipped}
use Rattle.monitor_runs.proofs.refused.skips_refused_access.Goals as goal

pub returns : goal.returns
returns c = not_skipped
