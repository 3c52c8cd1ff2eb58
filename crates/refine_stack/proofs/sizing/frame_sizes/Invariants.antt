use Rattle.std.proofs.Common.{◌≡◌, ℕ, ◌<◌, length, get_or}
use Rattle.ir_program.specs.Seen.{program_of}
use Rattle.refine_stack.specs.Paths.{frame_bytes}
use Rattle.refine_stack.proofs.sizing.frame_sizes.Given as goal

abbrev pub invariant-loop-i : goal.invariant-loop-i
invariant-loop-i l = record {
  count : length l.sizes.items ≡ l.i;
  each : (f : ℕ) → f < l.i → get_or l.sizes.items f 0 ≡ frame_bytes (program_of l.program) f;
}
