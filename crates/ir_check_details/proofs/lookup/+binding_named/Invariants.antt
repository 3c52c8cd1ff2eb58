use Rattle.std.proofs.Common.{length}
use Rattle.ir_check_details.proofs.lookup.+binding_named.Given as goal

abbrev pub decreases-binding_named : goal.decreases-binding_named
decreases-binding_named l = length l.bindings.now
