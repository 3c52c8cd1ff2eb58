use Rattle.std.proofs.Common.{◌++◌}
use Rattle.ir_model.specs.declared.check.CheckPlace.TheVariants as place
use Rattle.ir_model.specs.Plain.{global_of, firmware_of}
use Rattle.ir_check_globals.specs.Parts.{named_check, cells_part, global_part}
use Rattle.ir_check_scopes.specs.Parts.{size_check}
use Rattle.ir_check_scopes.proofs.Order.{first_told, refused_left}
use Rattle.ir_check_globals.proofs.globals.global.Goals as goal

pub returns-in_err-named-clause-finds : goal.returns-in_err-named-clause-finds
returns-in_err-named-clause-finds c =
    first_told (global_part c.args.scope.now.structs (firmware_of c.args.scope.now.firmware.now) c.args.seen.now (global_of c.args.global.now)) c.from_residual.result c.in_err-named.field-0.0 c.from_residual.ensures.1
    (refused_left ((named_check c.args.scope.now.structs c.args.seen.now (global_of c.args.global.now)) ++ (size_check (firmware_of c.args.scope.now.firmware.now) (place.Global c.args.global.now.name) (global_of c.args.global.now).ty)) (cells_part (firmware_of c.args.scope.now.firmware.now) (place.Global c.args.global.now.name) (global_of c.args.global.now).init (global_of c.args.global.now).ty) c.in_err-named.field-0.0 (refused_left (named_check c.args.scope.now.structs c.args.seen.now (global_of c.args.global.now)) (size_check (firmware_of c.args.scope.now.firmware.now) (place.Global c.args.global.now.name) (global_of c.args.global.now).ty) c.in_err-named.field-0.0 c.in_err-named.ensures.finds))
