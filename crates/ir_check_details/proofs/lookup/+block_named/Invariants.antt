use Rattle.std.proofs.Common.{length}
use Rattle.ir_check_details.proofs.lookup.+block_named.Given as goal

abbrev pub decreases-block_named : goal.decreases-block_named
decreases-block_named l = length l.blocks.now
