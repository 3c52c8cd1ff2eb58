use Rattle.monitor_runs.proofs.OneBlock.{blocks_are_one}
use Rattle.monitor_runs.proofs.moves.monitor_blocks.Goals as goal

pub returns : goal.returns
returns c = blocks_are_one
