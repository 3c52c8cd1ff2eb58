use Rattle.std.proofs.Common.{◌≡◌, false, map, take}
use Rattle.ir_program.specs.Parts.{span_of}
use Rattle.plan_report.specs.Undeclared.{is_declared}
use Rattle.plan_report.proofs.undeclared.behind.Given as goal

abbrev pub invariant-loop-i : goal.invariant-loop-i
invariant-loop-i l = is_declared (map span_of (take l.i l.spans)) l.address ≡ false
