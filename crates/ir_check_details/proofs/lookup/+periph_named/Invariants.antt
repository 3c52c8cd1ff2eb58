use Rattle.std.proofs.Common.{length}
use Rattle.ir_check_details.proofs.lookup.+periph_named.Given as goal

abbrev pub decreases-periph_named : goal.decreases-periph_named
decreases-periph_named l = length l.periphs.now
