use Rattle.refine_stack.proofs.Levels.{AreMarked}
use Rattle.refine_stack.proofs.cycles.level.Given as goal

abbrev pub invariant-loop-i : goal.invariant-loop-i
invariant-loop-i l = AreMarked l.calls l.to l.more l.i l.initial.far l.far l.changed
