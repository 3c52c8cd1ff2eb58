use Rattle.std.proofs.Common.{◌≡◌, drop}
use Rattle.ir_model.specs.Plain.{firmware_of, func_of}
use Rattle.ir_model.specs.Typing.{first_failing, code_checks}
use Rattle.ir_check_functions.proofs.code.block.Given as goal

abbrev pub invariant-loop-i : goal.invariant-loop-i
invariant-loop-i l = first_failing (code_checks (firmware_of l.scope.firmware.now) (func_of l.func.func.now) l.block.label 0 l.block.insts l.block.term) ≡ first_failing (code_checks (firmware_of l.scope.firmware.now) (func_of l.func.func.now) l.block.label l.i (drop l.i l.block.insts) l.block.term)
