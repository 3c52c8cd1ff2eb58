use Rattle.std.proofs.Common.{length}
use Rattle.ir_expected_tokens.proofs.stack.+behind_row.Given as goal

abbrev pub decreases-behind_row : goal.decreases-behind_row
decreases-behind_row l = length l.rows.now
