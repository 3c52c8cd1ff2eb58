use Rattle.std.proofs.Common.{◌≡◌, ◌-◌, map, length, None}
use Rattle.std.specs.List.{range_with_len}
use Rattle.plan_model.specs.Choices.{pairs}
use Rattle.plan_model.specs.Lists.{numbers_below}
use Rattle.plan_model.specs.Merging.{cover_cost}
use Rattle.plan_graph.specs.Choices.{priced, cheapest_from}
use Rattle.plan_graph.proofs.joined.cover_pair.Given as goal

abbrev pub invariant-loop-first : goal.invariant-loop-first
invariant-loop-first l = cheapest_from l.best (map (priced (cover_cost l.covers)) (pairs (range_with_len l.first (length l.covers - l.first))))
    ≡ cheapest_from None (map (priced (cover_cost l.covers)) (pairs (numbers_below (length l.covers))))
