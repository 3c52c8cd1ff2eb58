use Rattle.std.proofs.Common.{◌≡◌, subst, None, []}
use Rattle.ir_model.specs.declared.check.CheckPlace.TheVariants as place
use Rattle.ir_model.specs.Plain.{func_of, firmware_of}
use Rattle.ir_model.specs.Typing.{label_checks, blocks_checks, first_failing}
use Rattle.ir_check_scopes.specs.Found.{Refused}
use Rattle.ir_check_functions.specs.FunctionParts.{body_part}
use Rattle.ir_check_scopes.proofs.Order.{first_told, refused_right}
use Rattle.ir_check_functions.proofs.funcs.body.Goals as goal

pub returns-in_err-blocks : goal.returns-in_err-blocks
returns-in_err-blocks c =
    first_told (body_part (firmware_of c.args.scope.now.firmware.now) (func_of c.args.func.now)) c.from_residual-in_err-blocks.result c.in_err-blocks.field-0.0 c.from_residual-in_err-blocks.ensures.1
    (refused_right (label_checks (place.Func c.args.func.now.name) [] c.args.func.now.blocks) (blocks_checks (firmware_of c.args.scope.now.firmware.now) (func_of c.args.func.now) c.args.func.now.blocks) c.in_err-blocks.field-0.0
    (subst (λ bs. first_failing (label_checks (place.Func c.args.func.now.name) [] bs) ≡ None) c.as_slice.ensures c.in_ok-labels.ensures.finds)
    (subst (λ bs. Refused (blocks_checks (firmware_of c.args.scope.now.firmware.now) (func_of c.args.func.now) bs) c.in_err-blocks.field-0.0) c.as_slice-2.ensures
    (subst (λ g. Refused (blocks_checks (firmware_of c.args.scope.now.firmware.now) (func_of g) c.as_slice-2.result.now) c.in_err-blocks.field-0.0) c.in_ok-inner.ensures c.in_err-blocks.ensures)))
