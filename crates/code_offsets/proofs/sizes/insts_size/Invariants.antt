use Rattle.std.proofs.Common.{◌≡◌, ◌+◌, ℕ, [], map, take}
use Rattle.ir_model.specs.Resolved.{NumberedFunc}
use Rattle.ir_program.specs.Parts.{operation_of}
use Rattle.code_model.specs.Sizes as sizes
use Rattle.code_offsets.proofs.sizes.insts_size.Given as goal

-- what was counted leads from the first place to this
abbrev pub invariant-loop-place : goal.invariant-loop-place
invariant-loop-place l =
    (g : NumberedFunc) (lent : ℕ)
    → l.total + sizes.insts_size g l.sites lent l.block 0 (map (operation_of []) (take l.from l.operations))
    ≡ sizes.insts_size g l.sites lent l.block 0 (map (operation_of []) (take l.place l.operations))
