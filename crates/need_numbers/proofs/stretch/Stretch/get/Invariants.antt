use Rattle.std.proofs.Common.{◌≡◌, ◌+◌, length, take}
use Rattle.need_numbers.specs.Stretches.{joined}
use Rattle.need_numbers.proofs.stretch.Stretch.get.Given as goal

abbrev pub invariant-loop-at : goal.invariant-loop-at
invariant-loop-at l = l.rest + length (joined (take l.at l.self-inside.runs.items)) ≡ l.place
