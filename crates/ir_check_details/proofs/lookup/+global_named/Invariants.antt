use Rattle.std.proofs.Common.{length}
use Rattle.ir_check_details.proofs.lookup.+global_named.Given as goal

abbrev pub decreases-global_named : goal.decreases-global_named
decreases-global_named l = length l.globals.now
