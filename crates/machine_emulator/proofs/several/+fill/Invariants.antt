use Rattle.std.proofs.Common.{length}
use Rattle.machine_emulator.proofs.several.+fill.Given as goal

abbrev pub decreases-fill : goal.decreases-fill
decreases-fill l = length l.registers.now
