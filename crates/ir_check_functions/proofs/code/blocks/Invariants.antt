use Rattle.std.proofs.Common.{◌≡◌, drop}
use Rattle.ir_model.specs.Plain.{firmware_of, func_of}
use Rattle.ir_model.specs.Typing.{first_failing, blocks_checks}
use Rattle.ir_check_functions.proofs.code.blocks.Given as goal

abbrev pub invariant-loop-code : goal.invariant-loop-code
invariant-loop-code l = first_failing (blocks_checks (firmware_of l.scope.firmware.now) (func_of l.func.func.now) l.blocks) ≡ first_failing (blocks_checks (firmware_of l.scope.firmware.now) (func_of l.func.func.now) (drop l.code-index l.blocks))
