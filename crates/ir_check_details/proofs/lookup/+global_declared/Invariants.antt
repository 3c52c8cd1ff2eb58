use Rattle.std.proofs.Common.{length}
use Rattle.ir_check_details.proofs.lookup.+global_declared.Given as goal

abbrev pub decreases-global_declared : goal.decreases-global_declared
decreases-global_declared l = length l.globals.now
