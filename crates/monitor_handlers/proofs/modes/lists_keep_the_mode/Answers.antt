use Rattle.monitor_handlers.proofs.Mode.{mode_kept}
use Rattle.monitor_handlers.proofs.modes.lists_keep_the_mode.Goals as goal

pub returns : goal.returns
returns c = mode_kept
