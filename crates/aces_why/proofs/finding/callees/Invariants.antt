use Rattle.std.proofs.Common.{◌≡◌, take}
use Rattle.aces_why.specs.Findings.{callees_of}
use Rattle.aces_why.proofs.finding.callees.Given as goal

abbrev pub invariant-loop-i : goal.invariant-loop-i
invariant-loop-i l = l.lists.items ≡ callees_of (take l.i l.needs)
