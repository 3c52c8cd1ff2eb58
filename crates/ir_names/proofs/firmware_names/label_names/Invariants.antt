use Rattle.std.proofs.Common.{◌≡◌, map, take}
use Rattle.ir_model.specs.declared.firmware.Block.{Block}
use Rattle.ir_names.proofs.firmware_names.label_names.Given as goal

abbrev pub invariant-loop-block : goal.invariant-loop-block
invariant-loop-block l = l.names ≡ map (λ (b : Block). b.label) (take l.block-index l.blocks)
