use Rattle.monitor_constants.proofs.Counted.{records_behind}
use Rattle.monitor_constants.proofs.constants.behind.Goals as goal

pub returns : goal.returns
returns c = records_behind c.args.at c.args.size c.args.count
