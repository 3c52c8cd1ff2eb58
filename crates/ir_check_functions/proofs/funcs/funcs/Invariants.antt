use Rattle.std.proofs.Common.{◌≡◌, map, drop, Bor}
use Rattle.ir_model.specs.declared.firmware.Func.{Func}
use Rattle.ir_model.specs.Plain.{firmware_of, func_of, funcs_of}
use Rattle.ir_model.specs.Typing.{first_failing, funcs_checks}
use Rattle.ir_check_functions.proofs.funcs.funcs.Given as goal

abbrev pub invariant-loop-body : goal.invariant-loop-body
invariant-loop-body l = first_failing (funcs_checks (firmware_of l.scope.firmware.now) (funcs_of (firmware_of l.scope.firmware.now))) ≡ first_failing (funcs_checks (firmware_of l.scope.firmware.now) (map (λ (b : Bor Func). func_of b.now) (drop l.body-index l.scope.bodies.items)))
