use Rattle.std.proofs.Common.{ap, ◌∙◌}
use Rattle.ir_model.specs.Plain.{firmware_of, funcs_of}
use Rattle.ir_model.specs.Typing.{checks}
use Rattle.ir_check_scopes.proofs.Order.{first_told}
use Rattle.ir_check_scopes.proofs.LentFuncs.{all_lent}
use Rattle.ir_check.proofs.Small.{are_small}
use Rattle.ir_check.proofs.Whole.{all_left, all_behind}
use Rattle.ir_check.proofs.whole_check.all.Goals as goal

pub returns-in_err-scope : goal.returns-in_err-scope
returns-in_err-scope c =
    first_told (checks (firmware_of c.args.firmware.now)) c.from_residual.result c.in_err-scope.field-0.0 c.from_residual.ensures.1
    (all_left (firmware_of c.args.firmware.now) c.in_err-scope.field-0.0 c.in_err-scope.ensures.finds)

pub returns : goal.returns
returns c =
    all_behind (firmware_of c.args.firmware.now) (firmware_of c.in_ok-scope.scope.firmware.now) c.code.result
    (ap firmware_of c.in_ok-scope.ensures.firmware) c.in_ok-scope.ensures.finds c.code.ensures

pub code-requires : goal.code-requires
code-requires c =
    are_small (firmware_of c.args.firmware.now) c.in_ok-scope.scope.bodies.items c.requires
    (all_lent c.in_ok-scope.scope ∙ ap (λ w. funcs_of (firmware_of w)) c.in_ok-scope.ensures.firmware)
