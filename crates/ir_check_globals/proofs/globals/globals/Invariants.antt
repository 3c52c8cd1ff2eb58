use Rattle.std.proofs.Common.{◌≡◌, map, drop}
use Rattle.ir_model.specs.declared.firmware.Peripheral.{Peripheral}
use Rattle.ir_model.specs.Plain.{firmware_of, global_of}
use Rattle.ir_model.specs.Typing.{first_failing, globals_checks}
use Rattle.ir_check_globals.proofs.globals.globals.Given as goal

abbrev pub invariant-loop-declaration : goal.invariant-loop-declaration
invariant-loop-declaration l = first_failing (globals_checks (firmware_of l.scope.firmware.now) (map (λ (p : Peripheral). p.name) l.scope.firmware.now.periphs) (map global_of l.scope.firmware.now.globals)) ≡ first_failing (globals_checks (firmware_of l.scope.firmware.now) l.seen (map global_of (drop l.declaration-index l.scope.firmware.now.globals)))
