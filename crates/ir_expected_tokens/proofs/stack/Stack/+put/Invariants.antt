use Rattle.std.proofs.Common.{length}
use Rattle.ir_expected_tokens.proofs.stack.Stack.+put.Given as goal

abbrev pub decreases-put : goal.decreases-put
decreases-put l = length l.more.now
