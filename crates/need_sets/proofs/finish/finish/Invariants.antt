use Rattle.need_sets.proofs.Finished.{AreDone}
use Rattle.need_sets.proofs.finish.finish.Given as goal

abbrev pub invariant-loop-node : goal.invariant-loop-node
invariant-loop-node l = AreDone l.by_number.items l.lists l.node l.rows
