use Rattle.std.proofs.Common.{length}
use Rattle.ir_check_details.proofs.peripherals.+overlapped.Given as goal

abbrev pub decreases-overlapped : goal.decreases-overlapped
decreases-overlapped l = length l.periphs.now
