use Rattle.std.proofs.Common.{List, refl, arith}
use Rattle.ir_model.specs.declared.firmware.Block.{Block}
use Rattle.ir_model.specs.Plain.{func_of, firmware_of}
use Rattle.ir_model.specs.Typing.{code_checks, blocks_checks}
use Rattle.ir_check_scopes.proofs.Order.{first_told, stop_at, go_on}
use Rattle.ir_check_functions.proofs.code.blocks.Goals as goal

pub returns-in_err-block : goal.returns-in_err-block
returns-in_err-block c =
    first_told (blocks_checks (firmware_of c.args.scope.now.firmware.now) (func_of c.args.func.now.func.now) c.args.blocks.now) c.from_residual.result c.in_err-block.field-0.0 c.from_residual.ensures.1
    (stop_at (λ (bs : List Block). blocks_checks (firmware_of c.args.scope.now.firmware.now) (func_of c.args.func.now.func.now) bs)
    (λ (bs : List Block). blocks_checks (firmware_of c.args.scope.now.firmware.now) (func_of c.args.func.now.func.now) bs)
    (blocks_checks (firmware_of c.args.scope.now.firmware.now) (func_of c.args.func.now.func.now) c.args.blocks.now) (c.args.blocks.now) c.loop-code.code-index c.code-item.result (code_checks (firmware_of c.args.scope.now.firmware.now) (func_of c.args.func.now.func.now) c.code-item.result.label 0 c.code-item.result.insts c.code-item.result.term) c.in_err-block.field-0.0
    (omega arith) c.code-item.is (λ r. refl) c.loop-code.invariant c.in_err-block.ensures)

pub loop-code-preserved : goal.loop-code-preserved
loop-code-preserved c =
    (go_on (λ (bs : List Block). blocks_checks (firmware_of c.args.scope.now.firmware.now) (func_of c.args.func.now.func.now) bs)
    (λ (bs : List Block). blocks_checks (firmware_of c.args.scope.now.firmware.now) (func_of c.args.func.now.func.now) bs)
    (blocks_checks (firmware_of c.args.scope.now.firmware.now) (func_of c.args.func.now.func.now) c.args.blocks.now) (c.args.blocks.now) c.loop-code.code-index c.code-item.result (code_checks (firmware_of c.args.scope.now.firmware.now) (func_of c.args.func.now.func.now) c.code-item.result.label 0 c.code-item.result.insts c.code-item.result.term)
    (omega arith) c.code-item.is (λ r. refl) c.loop-code.invariant c.in_ok-block.ensures)
