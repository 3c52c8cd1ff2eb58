use Rattle.std.proofs.Common.{◌≡◌}
use Rattle.ir_program.specs.Seen.{program_of}
use Rattle.plan_model.specs.FinalGraph.{Merges}
use Rattle.plan_graph.specs.Merging.{IsMerging, parts_of}
use Rattle.plan_graph.proofs.merge.merge.Given as goal

abbrev pub invariant-loop-merging : goal.invariant-loop-merging
invariant-loop-merging l = record {
  merging : IsMerging l.merging;
  program : l.merging.program.now ≡ l.program;
  reached : Merges (program_of l.program) l.slots l.fn.graph l.merging.graph;
}

abbrev pub decreases-loop-merging : goal.decreases-loop-merging
decreases-loop-merging l = parts_of l.merging.graph
