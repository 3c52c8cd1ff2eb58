use Rattle.std.proofs.Common.{◌≡◌, ◌+◌, ◌-◌, ◌≤◌, map, take}
use Rattle.ir_program.specs.Parts.{span_of}
use Rattle.plan_report.specs.Undeclared.{undeclared_from}
use Rattle.plan_report.proofs.undeclared.first_declared.Given as goal

abbrev pub invariant-loop-i : goal.invariant-loop-i
invariant-loop-i l = record {
  count : l.first ≡ l.at + undeclared_from (map span_of (take l.i l.spans)) l.at (l.end - l.at);
  least : l.at ≤ l.first;
}
