use Rattle.monitor_runs.proofs.MovingCalls.{calls_come_back}
use Rattle.monitor_runs.proofs.moves.calls_come_back.Goals as goal

pub returns : goal.returns
returns c = calls_come_back
