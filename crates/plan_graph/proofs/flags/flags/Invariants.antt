use Rattle.std.proofs.Common.{take}
use Rattle.plan_graph.specs.Known.{AreFlags}
use Rattle.plan_graph.proofs.flags.flags.Given as goal

abbrev pub invariant-loop-i : goal.invariant-loop-i
invariant-loop-i l = AreFlags (take l.i l.numbers) l.flags.items
