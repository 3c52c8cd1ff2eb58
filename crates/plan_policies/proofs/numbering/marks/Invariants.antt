use Rattle.std.proofs.Common.{◌≡◌, length, take}
use Rattle.plan_policies.specs.Marks.{AreMarks}
use Rattle.plan_policies.proofs.numbering.marks.Given as goal

abbrev pub invariant-loop-i : goal.invariant-loop-i
invariant-loop-i l = record { each : length l.used.items ≡ l.count; exact : AreMarks (take l.i l.groups) l.used.items }
