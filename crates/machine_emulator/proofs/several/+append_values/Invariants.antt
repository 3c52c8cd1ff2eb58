use Rattle.std.proofs.Common.{length}
use Rattle.machine_emulator.proofs.several.+append_values.Given as goal

abbrev pub decreases-append_values : goal.decreases-append_values
decreases-append_values l = length l.registers.now
