use Rattle.plan_model.specs.InitialGraph.{read_mask_of}
use Rattle.plan_graph.proofs.masks.read_masks.Goals as goal
use Rattle.plan_model.proofs.Numbers.{mapped_more}

pub loop-compartment-preserved : goal.loop-compartment-preserved
loop-compartment-preserved c = mapped_more (read_mask_of c.args.needs.now c.args.groups.now) c.loop-compartment.compartment c.loop-compartment.masks.items _ c.read_mask.result c.loop-compartment.invariant c.read_mask.ensures c.in_ok-push.ensures.items
