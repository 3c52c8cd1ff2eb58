use Rattle.std.proofs.Common.{◌≡◌, ◌<◌, ℕ, [], length, get_or}
use Rattle.ir_program.specs.Seen.{program_of}
use Rattle.need_sets.specs.Sets.{sets_of}
use Rattle.aces_why.specs.Findings.{AreObjectsIn}
use Rattle.aces_why.proofs.finding.all_objects.Given as goal

abbrev pub invariant-loop-func : goal.invariant-loop-func
invariant-loop-func l = record {
  count : length l.all.items ≡ l.func;
  each : (f : ℕ) → f < l.func → AreObjectsIn (program_of l.program) (sets_of l.sets) f (get_or l.all.items f []);
}
