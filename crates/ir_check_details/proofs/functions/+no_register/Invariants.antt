use Rattle.std.proofs.Common.{length}
use Rattle.ir_check_details.proofs.functions.+no_register.Given as goal

abbrev pub decreases-no_register : goal.decreases-no_register
decreases-no_register l = length l.bindings.now
