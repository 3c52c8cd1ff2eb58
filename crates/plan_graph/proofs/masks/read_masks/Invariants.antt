use Rattle.std.proofs.Common.{◌≡◌, map}
use Rattle.plan_model.specs.InitialGraph.{read_mask_of}
use Rattle.plan_model.specs.Lists.{numbers_below}
use Rattle.plan_graph.proofs.masks.read_masks.Given as goal

abbrev pub invariant-loop-compartment : goal.invariant-loop-compartment
invariant-loop-compartment l = l.masks.items ≡ map (read_mask_of l.needs l.groups) (numbers_below l.compartment)
