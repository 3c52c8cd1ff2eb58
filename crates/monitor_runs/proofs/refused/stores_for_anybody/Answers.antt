use Rattle.monitor_runs.proofs.WrongMonitors.{not_for_anybody}
use Rattle.monitor_runs.proofs.refused.stores_for_anybody.Goals as goal

pub returns : goal.returns
returns c = not_for_anybody
