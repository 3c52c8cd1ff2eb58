use Rattle.std.proofs.Common.{◌≤◌, get_or}
use Rattle.refine_stack.specs.Taken.{IsSound}
use Rattle.refine_stack.proofs.deepest.settle.Given as goal

abbrev pub invariant-loop-k : goal.invariant-loop-k
invariant-loop-k l = record {
  grows : get_or l.initial.taken l.main 0 ≤ get_or l.taken l.main 0;
  sound : IsSound l.frames l.stack l.calls l.main l.taken;
}
