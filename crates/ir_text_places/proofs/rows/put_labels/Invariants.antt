use Rattle.std.proofs.Common.{◌≡◌, ◌++◌, map, take}
use Rattle.ir_model.specs.declared.firmware.Block.{Block}
use Rattle.ir_text_places.specs.Rows.{names_in}
use Rattle.ir_text_places.proofs.rows.put_labels.Given as goal

abbrev pub invariant-loop-block : goal.invariant-loop-block
invariant-loop-block l = names_in l.row.items ≡ names_in l.initial.row.items ++ map (λ (b : Block). b.label) (take l.block-index l.blocks)
