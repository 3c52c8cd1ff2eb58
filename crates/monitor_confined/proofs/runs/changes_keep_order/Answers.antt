use Rattle.monitor_confined.proofs.Changes.{changes_keep_order}
use Rattle.monitor_confined.proofs.runs.changes_keep_order.Goals as goal

pub returns : goal.returns
returns c = changes_keep_order
