use Rattle.std.proofs.Common.{length}
use Rattle.ir_check_details.proofs.lookup.+func_named.Given as goal

abbrev pub decreases-func_named : goal.decreases-func_named
decreases-func_named l = length l.files.now
