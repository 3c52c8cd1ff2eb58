use Rattle.std.proofs.Common.{◌∙◌}
use Rattle.monitor_constants.proofs.Counted.{background_closed, background_open}
use Rattle.monitor_constants.proofs.constants.background.Goals as goal

pub returns-then-t : goal.returns-then-t
returns-then-t c = c.region.ensures ∙ background_closed c.args.t.now.base c.args.t.now.closed c.if-t.true

pub returns-else-t : goal.returns-else-t
returns-else-t c = c.region-else-t.ensures ∙ background_open c.args.t.now.base c.args.t.now.closed c.if-t.false
