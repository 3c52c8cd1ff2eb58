use Rattle.std.proofs.Common.{◌≡◌, take}
use Rattle.aces_why.proofs.finding.as_places.Given as goal

abbrev pub invariant-loop-i : goal.invariant-loop-i
invariant-loop-i l = l.places.items ≡ take l.i l.numbers
