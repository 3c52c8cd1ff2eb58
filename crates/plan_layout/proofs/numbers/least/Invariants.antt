use Rattle.std.proofs.Common.{◌≡◌, take}
use Rattle.plan_layout.specs.Lowest.{least}
use Rattle.plan_layout.proofs.numbers.least.Given as goal

abbrev pub invariant-loop-number : goal.invariant-loop-number
invariant-loop-number l = l.least ≡ least (take l.number-index l.numbers)
