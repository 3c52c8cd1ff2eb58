use Rattle.plan_model.specs.RamBlocks.{ForRegion}
use Rattle.plan_model.specs.Placement.{placed_for}
use Rattle.plan_layout.specs.Filling.{ram_seen}
use Rattle.plan_layout.proofs.place.region_spots.Goals as goal
use Rattle.plan_model.proofs.Numbers.{mapped_more as mapped_next}

pub loop-number-preserved : goal.loop-number-preserved
loop-number-preserved c =
    mapped_next (λ r. placed_for (ram_seen c.args.memory.now) (ForRegion r)) c.loop-number.number c.loop-number.spots.items _ c.spot_of.result c.loop-number.invariant c.spot_of.ensures c.in_ok-push.ensures.items
