use Rattle.std.proofs.Common.{◌≡◌, length}
use Rattle.refine_stack.proofs.Levels.{AreFarUpTo}
use Rattle.refine_stack.proofs.cycles.distances.Given as goal

abbrev pub invariant-loop-more : goal.invariant-loop-more
invariant-loop-more l = record {
  count : length l.far.items ≡ l.count;
  far : AreFarUpTo l.calls l.to l.more l.far.items;
}
