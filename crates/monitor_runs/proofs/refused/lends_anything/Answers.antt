use Rattle.monitor_runs.proofs.WrongMonitors.{not_anything}
use Rattle.monitor_runs.proofs.refused.lends_anything.Goals as goal

pub returns : goal.returns
returns c = not_anything
