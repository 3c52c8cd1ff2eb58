use Rattle.std.proofs.Common.{ℕ, ◌<◌, ◌≤◌, length, get_or}
use Rattle.refine_stack.proofs.worst.most.Given as goal

abbrev pub invariant-loop-func : goal.invariant-loop-func
invariant-loop-func l = record {
  there : l.last < length l.taken;
  most : (f : ℕ) → f < l.func → get_or l.taken f 0 ≤ get_or l.taken l.last 0;
  first : (f : ℕ) → f < l.last → get_or l.taken f 0 < get_or l.taken l.last 0;
}
