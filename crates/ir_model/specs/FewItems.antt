-- Beyond the program's claim: only laws, proofs and functions inside the tool cite this file.
-- Functions that have no more items than a text may.
use Rattle.std.specs.Prelude.{◌+◌, ◌≤◌, length}
use Rattle.std.specs.List.{All}
use Rattle.ir_model.specs.declared.firmware.Block.{Block}
use Rattle.ir_model.specs.declared.firmware.Func.{Func}
use Rattle.ir_model.specs.TextLimits.{register_limit, local_limit, instruction_limit}

abbrev pub HasFewLocals : Func → Type 0
HasFewLocals f = length f.locals ≤ local_limit

-- its registers with the parameters, its locals, and the instructions of each block
pub record HasFewItems (f : Func) : Type 0 where
  pub registers : length f.params + length f.regs ≤ register_limit
  pub locals : HasFewLocals f
  pub insts : All (λ (b : Block). length b.insts ≤ instruction_limit) f.blocks
