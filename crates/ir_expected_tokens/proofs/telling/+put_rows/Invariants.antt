use Rattle.std.proofs.Common.{length}
use Rattle.ir_expected_tokens.proofs.telling.+put_rows.Given as goal

abbrev pub decreases-put_rows : goal.decreases-put_rows
decreases-put_rows l = length l.rows.now
