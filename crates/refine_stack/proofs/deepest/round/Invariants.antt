use Rattle.refine_stack.proofs.Raised.{IsTold}
use Rattle.refine_stack.proofs.deepest.round.Given as goal

abbrev pub invariant-loop-i : goal.invariant-loop-i
invariant-loop-i l = IsTold l.frames l.stack l.calls l.main l.i l.initial.taken l.taken l.changed
