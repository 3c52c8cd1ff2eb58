use Rattle.std.proofs.Common.{◌≡◌, map}
use Rattle.plan_model.specs.InitialGraph.{mask_of}
use Rattle.plan_model.specs.Lists.{numbers_below}
use Rattle.plan_graph.proofs.masks.masks.Given as goal

abbrev pub invariant-loop-compartment : goal.invariant-loop-compartment
invariant-loop-compartment l = l.masks.items ≡ map (mask_of l.needs l.groups) (numbers_below l.compartment)
