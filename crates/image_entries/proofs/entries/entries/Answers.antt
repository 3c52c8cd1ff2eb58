use Rattle.image_entries.specs.Bases.{entry_in}
use Rattle.image_entries.proofs.entries.entries.Goals as goal
use Rattle.plan_model.proofs.Numbers.{mapped_more}

pub loop-func-preserved : goal.loop-func-preserved
loop-func-preserved c =
    mapped_more (entry_in c.args.plan.now c.args.compartments.now c.args.sizes.now) c.loop-func.func c.loop-func.entries.items _ _ c.loop-func.invariant c.in-Some.ensures c.in_ok-push.ensures.items
