use Rattle.std.proofs.Common.{◌≡◌, take, sum, nat_eq}
use Rattle.std.specs.Prelude.{filter}
use Rattle.plan_layout.proofs.numbers.sum_equal.Given as goal

abbrev pub invariant-loop-number : goal.invariant-loop-number
invariant-loop-number l = l.total ≡ sum (filter (λ n. nat_eq n l.same) (take l.number-index l.numbers))
