use Rattle.std.proofs.Common.{map, ap, ◌∙◌}
use Rattle.std.proofs.lemmas.List.{map_push}
use Rattle.ir_program.specs.Seen.{program_of}
use Rattle.plan_model.specs.RamBlocks.{region_block}
use Rattle.plan_layout.specs.Filling.{block_seen}
use Rattle.plan_layout.proofs.Steps.{mapped_behind}
use Rattle.plan_layout.proofs.ram.add_regions.Goals as goal

pub loop-number-preserved : goal.loop-number-preserved
loop-number-preserved c =
    let before = c.loop-number.blocks.items in
    mapped_behind _ (region_block (program_of c.args.program.now) c.args.regions.now) c.loop-number.number (map block_seen before) _ (block_seen c.in_ok-block.block) c.loop-number.invariant
    c.in_ok-block.ensures (ap (map block_seen) c.in_ok-push.ensures.items ∙ map_push block_seen before c.in_ok-block.block)
