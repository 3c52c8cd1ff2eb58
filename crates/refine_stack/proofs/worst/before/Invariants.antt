use Rattle.refine_stack.proofs.Chains.{IsLowestGiven}
use Rattle.refine_stack.proofs.worst.before.Given as goal

abbrev pub invariant-loop-i : goal.invariant-loop-i
invariant-loop-i l = IsLowestGiven l.frames l.stack l.calls l.taken l.func l.i l.least
