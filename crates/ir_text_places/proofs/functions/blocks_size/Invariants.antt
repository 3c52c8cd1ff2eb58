use Rattle.std.proofs.Common.{◌≡◌, take}
use Rattle.std.specs.List.{sum_by}
use Rattle.ir_text_places.specs.Sizes.{block_size}
use Rattle.ir_text_places.proofs.functions.blocks_size.Given as goal

abbrev pub invariant-loop-block : goal.invariant-loop-block
invariant-loop-block l = l.size ≡ sum_by block_size (take l.block-index l.blocks)
