use Rattle.std.proofs.Common.{◌≡◌, length}
use Rattle.machine_emulator.specs.Code.{EachDecoded}
use Rattle.machine_emulator.proofs.flash_code.decode_each.Given as goal

abbrev pub invariant-loop-k : goal.invariant-loop-k
invariant-loop-k l = (length l.instructions.items ≡ l.k) × EachDecoded l.flash 0 l.instructions.items
