use Rattle.refine_stack.proofs.Chains.{IsBack}
use Rattle.refine_stack.proofs.worst.worst_path.Given as goal

abbrev pub invariant-loop-k : goal.invariant-loop-k
invariant-loop-k l = IsBack l.frames l.stack l.calls l.taken l.main l.needed l.path.items l.func
