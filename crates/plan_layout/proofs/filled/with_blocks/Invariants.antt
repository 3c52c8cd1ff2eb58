use Rattle.std.proofs.Common.{◌≡◌, take, map}
use Rattle.plan_layout.specs.Filling.{block_seen, ram_seen, filled_by}
use Rattle.plan_layout.proofs.filled.with_blocks.Given as goal

abbrev pub invariant-loop-block : goal.invariant-loop-block
invariant-loop-block l = ram_seen l.memory ≡ filled_by l.ram (ram_seen l.fn.begun) (map block_seen (take l.block-index l.blocks))
