use Rattle.std.proofs.Common.{◌≡◌}
use Rattle.ir_reader.specs.Scan.{placed}
use Rattle.ir_text_places.specs.Lefts.{left_at}
use Rattle.ir_text_places.proofs.tokens.left_at.Given as goal

abbrev pub invariant-loop-more : goal.invariant-loop-more
invariant-loop-more l = left_at l.more (placed l.rest) ≡ left_at l.before (placed l.text)

abbrev pub decreases-loop-more : goal.decreases-loop-more
decreases-loop-more l = l.more
