use Rattle.monitor_runs.proofs.WrongMonitors.{not_for_ever}
use Rattle.monitor_runs.proofs.refused.loops_in_handler.Goals as goal

pub returns : goal.returns
returns c = not_for_ever
