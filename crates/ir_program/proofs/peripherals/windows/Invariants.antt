use Rattle.std.proofs.Common.{◌≡◌, take, map}
use Rattle.ir_program.specs.Windows.{window_of}
use Rattle.ir_program.proofs.peripherals.windows.Given as goal

abbrev pub invariant-loop-periph : goal.invariant-loop-periph
invariant-loop-periph l = l.windows.items ≡ map window_of (take l.periph-index l.periphs)
