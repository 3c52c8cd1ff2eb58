use Rattle.std.proofs.Common.{◌≡◌, ℕ, ◌<◌, false, length, get_or}
use Rattle.needs.specs.Reaching.{leads}
use Rattle.needs.proofs.reaching.recursive.Given as goal

abbrev pub invariant-loop-i : goal.invariant-loop-i
invariant-loop-i l = record {
  count : length l.flags.items ≡ l.i;
  each : (f : ℕ) → f < l.i → get_or l.flags.items f false ≡ leads l.rows.items f f;
}
