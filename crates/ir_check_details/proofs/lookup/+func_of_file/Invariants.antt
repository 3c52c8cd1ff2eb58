use Rattle.std.proofs.Common.{length}
use Rattle.ir_check_details.proofs.lookup.+func_of_file.Given as goal

abbrev pub decreases-func_of_file : goal.decreases-func_of_file
decreases-func_of_file l = length l.funcs.now
