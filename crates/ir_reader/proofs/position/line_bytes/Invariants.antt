use Rattle.std.proofs.Common.{◌≡◌, ◌≤◌, ◌+◌, ◌-◌, length, take}
use Rattle.std.specs.List.{suffix_len}
use Rattle.ir_model.specs.Texts.{is_inside_line}
use Rattle.ir_reader.proofs.position.line_bytes.Given as goal

abbrev pub invariant-loop-start : goal.invariant-loop-start
invariant-loop-start l = record {
  within : l.start ≤ length l.front;
  len : (length l.front - l.start) + suffix_len is_inside_line (take l.start l.front) ≡ suffix_len is_inside_line l.front;
}

abbrev pub decreases-loop-start : goal.decreases-loop-start
decreases-loop-start l = l.start
