use Rattle.std.proofs.Common.{length}
use Rattle.ir_expected_tokens.proofs.telling.+put_expected.Given as goal

abbrev pub decreases-put_expected : goal.decreases-put_expected
decreases-put_expected l = length l.symbols.now
