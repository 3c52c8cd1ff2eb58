use Rattle.std.proofs.Common.{length}
use Rattle.ir_expected_tokens.proofs.stack.+place.Given as goal

abbrev pub decreases-place : goal.decreases-place
decreases-place l = length l.symbols.now
