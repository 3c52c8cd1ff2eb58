use Rattle.std.proofs.Common.{length}
use Rattle.ir_check_functions.proofs.calls.+fit_types.Given as goal

abbrev pub decreases-fit_types : goal.decreases-fit_types
decreases-fit_types l = length l.params.now
