use Rattle.std.proofs.Common.{length}
use Rattle.ir_check_details.proofs.lookup.+has_periph.Given as goal

abbrev pub decreases-has_periph : goal.decreases-has_periph
decreases-has_periph l = length l.periphs.now
