use Rattle.std.proofs.Common.{◌≡◌, take, map}
use Rattle.plan_model.specs.RamPlacement.{largest_with}
use Rattle.plan_layout.specs.Filling.{block_seen}
use Rattle.plan_layout.proofs.filled.largest_with.Given as goal

abbrev pub invariant-loop-block : goal.invariant-loop-block
invariant-loop-block l = l.most ≡ largest_with l.fn.size (map block_seen (take l.block-index l.blocks))
