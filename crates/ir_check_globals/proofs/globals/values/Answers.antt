use Rattle.std.proofs.Common.{◌∙◌, ◌+◌, ap, drop, arith}
use Rattle.ir_model.specs.Types.{type_of}
use Rattle.ir_model.specs.Plain.{firmware_of}
use Rattle.ir_model.specs.Typing.{cell_checks, first_failing}
use Rattle.ir_cells.specs.Cells.{lent_types}
use Rattle.ir_check_globals.specs.Parts.{values_checks}
use Rattle.ir_check_scopes.specs.Spots.{place_of}
use Rattle.ir_check_scopes.proofs.Order.{first_told, passed, stopped}
use Rattle.ir_check_globals.proofs.GlobalParts.{values_next}
use Rattle.ir_check_globals.proofs.globals.values.Goals as goal

pub returns-in_err-value : goal.returns-in_err-value
returns-in_err-value c =
    first_told (values_checks (firmware_of c.args.scope.now.firmware.now) (place_of c.args.spot) c.args.cells.now (lent_types c.args.types.now)) c.from_residual.result c.in_err-value.field-0.0 c.from_residual.ensures.1
    (stopped (values_checks (firmware_of c.args.scope.now.firmware.now) (place_of c.args.spot) c.args.cells.now (lent_types c.args.types.now)) (cell_checks (firmware_of c.args.scope.now.firmware.now) (place_of c.args.spot) c.index-cells-i.result (type_of c.index-types-i.result.now)) (values_checks (firmware_of c.args.scope.now.firmware.now) (place_of c.args.spot) (drop (c.loop-i.i + 1) c.args.cells.now) (lent_types (drop (c.loop-i.i + 1) c.args.types.now))) c.in_err-value.field-0.0 (c.loop-i.invariant ∙ ap first_failing (values_next (firmware_of c.args.scope.now.firmware.now) (place_of c.args.spot) c.args.cells.now c.args.types.now c.loop-i.i c.index-cells-i.result c.index-types-i.result (omega arith) (omega arith) c.index-cells-i.is c.index-types-i.is)) c.in_err-value.ensures)

pub loop-i-preserved : goal.loop-i-preserved
loop-i-preserved c = passed (values_checks (firmware_of c.args.scope.now.firmware.now) (place_of c.args.spot) c.args.cells.now (lent_types c.args.types.now)) (cell_checks (firmware_of c.args.scope.now.firmware.now) (place_of c.args.spot) c.index-cells-i.result (type_of c.index-types-i.result.now)) (values_checks (firmware_of c.args.scope.now.firmware.now) (place_of c.args.spot) (drop (c.loop-i.i + 1) c.args.cells.now) (lent_types (drop (c.loop-i.i + 1) c.args.types.now))) (c.loop-i.invariant ∙ ap first_failing (values_next (firmware_of c.args.scope.now.firmware.now) (place_of c.args.spot) c.args.cells.now c.args.types.now c.loop-i.i c.index-cells-i.result c.index-types-i.result (omega arith) (omega arith) c.index-cells-i.is c.index-types-i.is)) c.in_ok-value.ensures
