use Rattle.std.proofs.Common.{◌≡◌, take}
use Rattle.ir_program.specs.Seen.{program_of}
use Rattle.plan_model.specs.Regions.{size_of}
use Rattle.plan_graph.proofs.known.size.Given as goal

abbrev pub invariant-loop-i : goal.invariant-loop-i
invariant-loop-i l = l.size ≡ size_of (program_of l.program) (take l.i l.globals)
