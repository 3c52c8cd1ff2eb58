use Rattle.std.proofs.Common.{◌≡◌, map}
use Rattle.ir_program.specs.Seen.{program_of}
use Rattle.plan_model.specs.InitialGraph.{covers_of}
use Rattle.plan_model.specs.Lists.{numbers_below}
use Rattle.plan_graph.proofs.covers.all_covers.Given as goal

abbrev pub invariant-loop-compartment : goal.invariant-loop-compartment
invariant-loop-compartment l = l.all.items ≡ map (covers_of (program_of l.program) l.needs l.groups) (numbers_below l.compartment)
