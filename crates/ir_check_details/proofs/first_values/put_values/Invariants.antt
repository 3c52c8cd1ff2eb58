use Rattle.std.proofs.Common.{◌≡◌, ◌+◌, drop}
use Rattle.ir_model.specs.Plain.{firmware_of}
use Rattle.ir_model.specs.declared.check.CheckPlace.TheVariants as place
use Rattle.ir_check_details.proofs.Misfits.{lines_from}
use Rattle.ir_check_details.proofs.first_values.put_values.Given as goal

abbrev pub invariant-loop-i : goal.invariant-loop-i
invariant-loop-i l =
    (l.out.items ≡ l.initial.out.items)
    × (lines_from (firmware_of l.scope.firmware.now) (place.Global l.global) 1 l.cells l.types ≡ lines_from (firmware_of l.scope.firmware.now) (place.Global l.global) (l.i + 1) (drop l.i l.cells) (drop l.i l.types))
