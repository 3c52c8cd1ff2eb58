use Rattle.std.proofs.Common.{◌≡◌, ◌+◌, ◌-◌, map}
use Rattle.std.specs.List.{range_with_len}
use Rattle.plan_model.specs.Merging.{cover_cost}
use Rattle.plan_graph.specs.Choices.{priced, cheapest_from, pairs_with}
use Rattle.plan_graph.proofs.joined.with_later.Given as goal

abbrev pub invariant-loop-second : goal.invariant-loop-second
invariant-loop-second l = l.best ≡ cheapest_from l.initial.best (map (priced (cover_cost l.covers)) (pairs_with l.first (range_with_len (l.first + 1) (l.second - (l.first + 1)))))
