use Rattle.refine_stack.proofs.Rings.{NoneBelow}
use Rattle.refine_stack.proofs.cycles.first_cycle.Given as goal

abbrev pub invariant-loop-func : goal.invariant-loop-func
invariant-loop-func l = NoneBelow l.calls l.main l.func
