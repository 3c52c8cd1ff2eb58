use Rattle.plan_model.specs.InitialGraph.{mask_of}
use Rattle.plan_graph.proofs.masks.masks.Goals as goal
use Rattle.plan_model.proofs.Numbers.{mapped_more}

pub loop-compartment-preserved : goal.loop-compartment-preserved
loop-compartment-preserved c = mapped_more (mask_of c.args.needs.now c.args.groups.now) c.loop-compartment.compartment c.loop-compartment.masks.items _ c.mask.result c.loop-compartment.invariant c.mask.ensures c.in_ok-push.ensures.items
