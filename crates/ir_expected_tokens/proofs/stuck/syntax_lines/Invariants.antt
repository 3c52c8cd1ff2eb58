use Rattle.std.proofs.Common.{◌≡◌, length}
use Rattle.ir_reader.specs.Scan.{placed}
use Rattle.ir_expected_tokens.specs.Stuck.{stuck, stuck_in}
use Rattle.ir_expected_tokens.proofs.stuck.syntax_lines.Given as goal

abbrev pub invariant-loop-stack : goal.invariant-loop-stack
invariant-loop-stack l = record {
  same : stuck l.stack (placed l.rest) ≡ stuck_in l.text;
}

abbrev pub decreases-loop-stack : goal.decreases-loop-stack
decreases-loop-stack l = length (placed l.rest)
