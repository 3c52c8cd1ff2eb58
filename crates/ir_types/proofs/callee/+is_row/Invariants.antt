use Rattle.std.proofs.Common.{length}
use Rattle.ir_types.proofs.callee.+is_row.Given as goal

abbrev pub decreases-is_row : goal.decreases-is_row
decreases-is_row l = length l.params.now
