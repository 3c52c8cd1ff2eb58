use Rattle.std.proofs.Common.{◌≡◌, ℕ, ◌<◌, ◌≤◌, ◌||◌, false, get_or}
use Rattle.needs.proofs.reaching.put_all.Given as goal

abbrev pub invariant-loop-i : goal.invariant-loop-i
invariant-loop-i l = record {
  done : (g : ℕ) → g < l.i → get_or l.flags g false ≡ (get_or l.initial.flags g false || get_or l.others g false);
  rest : (g : ℕ) → l.i ≤ g → get_or l.flags g false ≡ get_or l.initial.flags g false;
}
