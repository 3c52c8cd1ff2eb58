use Rattle.std.proofs.Common.{length}
use Rattle.ir_check_details.proofs.instructions.+put_more_params.Given as goal

abbrev pub decreases-put_more_params : goal.decreases-put_more_params
decreases-put_more_params l = length l.params.now
