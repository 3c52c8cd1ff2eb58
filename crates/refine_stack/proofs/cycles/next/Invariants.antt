use Rattle.refine_stack.proofs.Rings.{IsLowestSo}
use Rattle.refine_stack.proofs.cycles.next.Given as goal

abbrev pub invariant-loop-i : goal.invariant-loop-i
invariant-loop-i l = IsLowestSo l.calls l.far l.from l.more l.i l.least
