use Rattle.std.proofs.Common.{length}
use Rattle.ir_check_functions.proofs.calls.+fit_bindings.Given as goal

abbrev pub decreases-fit_bindings : goal.decreases-fit_bindings
decreases-fit_bindings l = length l.params.now
