use Rattle.std.proofs.Common.{take}
use Rattle.ir_program.specs.Seen.{program_of}
use Rattle.plan_graph.specs.Known.{AreLearned, AreCosts}
use Rattle.plan_graph.proofs.merging.merging_of.Given as goal

abbrev pub invariant-loop-i : goal.invariant-loop-i
invariant-loop-i l = record {
  learned : AreLearned (program_of l.program) l.known.items (take l.i l.regions) l.numbers.items;
  costs : AreCosts l.known.items l.costs.items;
}
