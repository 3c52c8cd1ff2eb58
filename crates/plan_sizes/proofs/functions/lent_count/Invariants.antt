use Rattle.std.proofs.Common.{◌≡◌, count_by}
use Rattle.std.specs.List.{list_any}
use Rattle.plan_model.specs.Lists.{numbers_below}
use Rattle.plan_model.specs.Lending.{is_local}
use Rattle.plan_sizes.proofs.functions.lent_count.Given as goal

abbrev pub invariant-loop-local : goal.invariant-loop-local
invariant-loop-local l = l.count ≡ count_by (λ k. list_any (is_local l.func k) l.lent) (numbers_below l.local)
