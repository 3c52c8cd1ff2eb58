use Rattle.std.proofs.Common.{length}
use Rattle.ir_check_details.proofs.lookup.+struct_named.Given as goal

abbrev pub decreases-struct_named : goal.decreases-struct_named
decreases-struct_named l = length l.structs.now
