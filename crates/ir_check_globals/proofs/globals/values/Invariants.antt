use Rattle.std.proofs.Common.{◌≡◌, drop}
use Rattle.ir_model.specs.Plain.{firmware_of}
use Rattle.ir_model.specs.Typing.{first_failing}
use Rattle.ir_cells.specs.Cells.{lent_types}
use Rattle.ir_check_globals.specs.Parts.{values_checks}
use Rattle.ir_check_scopes.specs.Spots.{place_of}
use Rattle.ir_check_globals.proofs.globals.values.Given as goal

abbrev pub invariant-loop-i : goal.invariant-loop-i
invariant-loop-i l = first_failing (values_checks (firmware_of l.scope.firmware.now) (place_of l.spot) l.cells (lent_types l.types)) ≡ first_failing (values_checks (firmware_of l.scope.firmware.now) (place_of l.spot) (drop l.i l.cells) (lent_types (drop l.i l.types)))
