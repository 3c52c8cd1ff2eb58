use Rattle.std.proofs.Common.{◌≡◌, take, sum, nat_lt}
use Rattle.std.specs.Prelude.{filter}
use Rattle.plan_layout.proofs.numbers.sum_above.Given as goal

abbrev pub invariant-loop-number : goal.invariant-loop-number
invariant-loop-number l = l.total ≡ sum (filter (λ n. nat_lt l.least n) (take l.number-index l.numbers))
