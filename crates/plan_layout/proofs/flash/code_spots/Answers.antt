use Rattle.std.proofs.Common.{◌+◌}
use Rattle.plan_model.specs.FlashPlacement.{flash_spot}
use Rattle.plan_layout.proofs.flash.code_spots.Goals as goal
use Rattle.plan_model.proofs.Numbers.{mapped_more as mapped_next}

pub loop-number-preserved : goal.loop-number-preserved
loop-number-preserved c =
    mapped_next (λ n. flash_spot c.args.base c.args.blocks.now (n + 1)) c.loop-number.number c.loop-number.spots.items _ c.spot_at.result c.loop-number.invariant c.spot_at.ensures c.in_ok-push.ensures.items
