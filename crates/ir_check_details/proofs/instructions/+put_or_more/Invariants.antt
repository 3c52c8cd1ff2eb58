use Rattle.std.proofs.Common.{length}
use Rattle.ir_check_details.proofs.instructions.+put_or_more.Given as goal

abbrev pub decreases-put_or_more : goal.decreases-put_or_more
decreases-put_or_more l = length l.fields.now
