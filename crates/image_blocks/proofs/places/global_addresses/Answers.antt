use Rattle.ir_program.specs.Seen.{program_of}
use Rattle.plan_model.specs.Placement as placement
use Rattle.image_blocks.proofs.places.global_addresses.Goals as goal
use Rattle.plan_model.proofs.Numbers.{mapped_more}

pub loop-global-preserved : goal.loop-global-preserved
loop-global-preserved c =
    mapped_more (placement.global_address (program_of c.args.program.now) c.args.graph.now c.args.plan.now) c.loop-global.global c.loop-global.addresses.items _ _ c.loop-global.invariant c.in-Some.ensures c.in_ok-push.ensures.items
