use Rattle.std.proofs.Common.{refl}
use Rattle.plan_model.proofs.Numbers.{mapped_more as mapped_next}
use Rattle.aces_explain.specs.Blocks.{numbered_at}
use Rattle.aces_explain.proofs.flash.numbered_blocks.Goals as goal

pub loop-number-preserved : goal.loop-number-preserved
loop-number-preserved c =
    mapped_next (numbered_at c.args.sizes.now) c.loop-number.number c.loop-number.blocks.items _ _ c.loop-number.invariant refl c.in_ok-push.ensures.items
