use Rattle.std.proofs.Common.{◌≡◌, ◌++◌, map}
use Rattle.ir_program.specs.Seen.{program_of}
use Rattle.plan_model.specs.Lists.{numbers_below}
use Rattle.plan_model.specs.RamBlocks.{region_block}
use Rattle.plan_layout.specs.Filling.{block_seen}
use Rattle.plan_layout.proofs.ram.add_regions.Given as goal

abbrev pub invariant-loop-number : goal.invariant-loop-number
invariant-loop-number l = map block_seen l.blocks.items ≡ map block_seen l.initial.blocks.items ++ map (region_block (program_of l.program) l.regions) (numbers_below l.number)
