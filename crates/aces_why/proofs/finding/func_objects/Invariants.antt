use Rattle.std.proofs.Common.{◌≡◌, ◌<◌, ℕ, [], length, get_or}
use Rattle.need_sets.specs.Sets.{sets_of}
use Rattle.aces_why.specs.Findings.{AreObjectsOf}
use Rattle.aces_why.proofs.finding.func_objects.Given as goal

abbrev pub invariant-loop-register : goal.invariant-loop-register
invariant-loop-register l = record {
  count : length l.rows.items ≡ l.register;
  each : (r : ℕ) → r < l.register → AreObjectsOf (sets_of l.sets) l.func r (get_or l.rows.items r []);
}
