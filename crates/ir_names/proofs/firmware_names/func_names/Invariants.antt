use Rattle.std.proofs.Common.{◌≡◌, map, take, Bor}
use Rattle.ir_model.specs.declared.firmware.Func.{Func}
use Rattle.ir_model.specs.Plain.{func_of}
use Rattle.ir_names.proofs.firmware_names.func_names.Given as goal

abbrev pub invariant-loop-func : goal.invariant-loop-func
invariant-loop-func l = l.names ≡ map (λ (f : Bor Func). (func_of f.now).name) (take l.func-index l.funcs)
