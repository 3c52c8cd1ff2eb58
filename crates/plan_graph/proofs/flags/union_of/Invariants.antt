use Rattle.std.proofs.Common.{◌≡◌, ◌++◌, take}
use Rattle.plan_model.specs.Lists.{without}
use Rattle.plan_graph.proofs.flags.union_of.Given as goal

abbrev pub invariant-loop-i : goal.invariant-loop-i
invariant-loop-i l = l.all.items ≡ l.ones ++ without (take l.i l.others) l.ones
