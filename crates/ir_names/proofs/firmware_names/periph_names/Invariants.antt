use Rattle.std.proofs.Common.{◌≡◌, map, take}
use Rattle.ir_model.specs.declared.firmware.Peripheral.{Peripheral}
use Rattle.ir_names.proofs.firmware_names.periph_names.Given as goal

abbrev pub invariant-loop-periph : goal.invariant-loop-periph
invariant-loop-periph l = l.names ≡ map (λ (p : Peripheral). p.name) (take l.periph-index l.periphs)
