use Rattle.std.proofs.Common.{◌<◌, ◌++◌, ap, sym, length, map, Bor, List, arith}
use Rattle.ir_model.specs.declared.firmware.Func.{Func}
use Rattle.ir_model.specs.Plain.{func_of, firmware_of, funcs_of}
use Rattle.ir_model.specs.Typing.{funcs_checks, first_failing}
use Rattle.ir_check_functions.specs.FunctionParts.{func_part}
use Rattle.ir_check_scopes.proofs.Order.{first_told, stop_at, go_on}
use Rattle.ir_check_scopes.proofs.LentFuncs.{all_lent}
use Rattle.ir_check_functions.proofs.FuncParts.{func_parts}
use Rattle.ir_check_functions.proofs.funcs.funcs.Goals as goal

pub loop-body-init : goal.loop-body-init
loop-body-init c = ap (λ fs. first_failing (funcs_checks (firmware_of c.args.scope.now.firmware.now) fs)) (sym (all_lent c.args.scope.now))

pub returns-in_err-func : goal.returns-in_err-func
returns-in_err-func c =
    first_told (funcs_checks (firmware_of c.args.scope.now.firmware.now) (funcs_of (firmware_of c.args.scope.now.firmware.now))) c.from_residual.result c.in_err-func.field-0.0 c.from_residual.ensures.1
    (stop_at (λ (bs : List (Bor Func)). funcs_checks (firmware_of c.args.scope.now.firmware.now) (map (λ (b : Bor Func). func_of b.now) bs))
    (λ (bs : List (Bor Func)). funcs_checks (firmware_of c.args.scope.now.firmware.now) (map (λ (b : Bor Func). func_of b.now) bs))
    (funcs_checks (firmware_of c.args.scope.now.firmware.now) (funcs_of (firmware_of c.args.scope.now.firmware.now))) (c.args.scope.now.bodies.items) c.loop-body.body-index c.body-item.result (func_part c.args.scope.now.structs (firmware_of c.args.scope.now.firmware.now) (func_of c.body-item.result.now)) c.in_err-func.field-0.0
    (let l : c.loop-body.body-index < length c.deref-body-items.result.now = omega arith in rw c.deref-body-items.ensures.value at l) (rw c.deref-body-items.ensures.value at c.body-item.is) (λ r. ap (λ cs. cs ++ funcs_checks (firmware_of c.args.scope.now.firmware.now) (map (λ (b : Bor Func). func_of b.now) r)) (func_parts (firmware_of c.args.scope.now.firmware.now) (func_of c.body-item.result.now) c.args.scope.now.structs c.args.scope.now.all_structs)) c.loop-body.invariant c.in_err-func.ensures)

pub loop-body-preserved : goal.loop-body-preserved
loop-body-preserved c =
    (go_on (λ (bs : List (Bor Func)). funcs_checks (firmware_of c.args.scope.now.firmware.now) (map (λ (b : Bor Func). func_of b.now) bs))
    (λ (bs : List (Bor Func)). funcs_checks (firmware_of c.args.scope.now.firmware.now) (map (λ (b : Bor Func). func_of b.now) bs))
    (funcs_checks (firmware_of c.args.scope.now.firmware.now) (funcs_of (firmware_of c.args.scope.now.firmware.now))) (c.args.scope.now.bodies.items) c.loop-body.body-index c.body-item.result (func_part c.args.scope.now.structs (firmware_of c.args.scope.now.firmware.now) (func_of c.body-item.result.now))
    (let l : c.loop-body.body-index < length c.deref-body-items.result.now = omega arith in rw c.deref-body-items.ensures.value at l) (rw c.deref-body-items.ensures.value at c.body-item.is) (λ r. ap (λ cs. cs ++ funcs_checks (firmware_of c.args.scope.now.firmware.now) (map (λ (b : Bor Func). func_of b.now) r)) (func_parts (firmware_of c.args.scope.now.firmware.now) (func_of c.body-item.result.now) c.args.scope.now.structs c.args.scope.now.all_structs)) c.loop-body.invariant c.in_ok-func.ensures)
