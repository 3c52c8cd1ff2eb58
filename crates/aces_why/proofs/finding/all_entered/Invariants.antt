use Rattle.std.proofs.Common.{◌≡◌, ◌<◌, ℕ, [], length, get_or}
use Rattle.ir_model.specs.Resolved.{func_at}
use Rattle.ir_program.specs.Seen.{program_of}
use Rattle.aces_why.specs.Reached.{AreReached}
use Rattle.aces_why.specs.Findings.{exits_of}
use Rattle.aces_why.proofs.finding.all_entered.Given as goal

abbrev pub invariant-loop-func : goal.invariant-loop-func
invariant-loop-func l = record {
  count : length l.all.items ≡ l.func;
  each : (f : ℕ) → f < l.func → AreReached (exits_of (func_at (program_of l.program) f).blocks) 0 (get_or l.all.items f []);
}
