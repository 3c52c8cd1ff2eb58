use Rattle.refine_stack.proofs.Rings.{IsOn}
use Rattle.refine_stack.proofs.cycles.around.Given as goal

abbrev pub invariant-loop-k : goal.invariant-loop-k
invariant-loop-k l = IsOn l.calls l.func l.far l.total l.k l.path.items l.last
