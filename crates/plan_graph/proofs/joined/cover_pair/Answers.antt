use Rattle.std.proofs.Common.{◌≡◌, ◌-◌, length, map, None, sym, ap, ◌∙◌, arith}
use Rattle.std.specs.Prelude.{option_map}
use Rattle.std.specs.List.{range_with_len}
use Rattle.plan_model.specs.Choices.{pairs}
use Rattle.plan_model.specs.Lists.{numbers_below}
use Rattle.plan_model.specs.Merging.{cover_cost}
use Rattle.plan_graph.specs.Choices.{pair_of, priced, cheapest_from}
use Rattle.plan_graph.proofs.Cheapest.{ranged_next, cheapest_is}
use Rattle.plan_graph.proofs.joined.cover_pair.Goals as goal

pub loop-first-preserved : goal.loop-first-preserved
loop-first-preserved c =
    ranged_next (cover_cost c.args.covers.now) c.loop-first.first (length c.args.covers.now) c.loop-first.best c.with_later-best.result
    (cheapest_from None (map (priced (cover_cost c.args.covers.now)) (pairs (numbers_below (length c.args.covers.now))))) c.loop-first-test.true c.loop-first.invariant c.with_later-best.ensures

pub returns : goal.returns
returns c =
    let none : length c.args.covers.now - c.loop-first.first ≡ 0 = omega arith in
    ap (option_map pair_of) (sym (ap (λ k. cheapest_from c.loop-first.best (map (priced (cover_cost c.args.covers.now)) (pairs (range_with_len c.loop-first.first k)))) none) ∙ c.loop-first.invariant)
    ∙ cheapest_is (cover_cost c.args.covers.now) (pairs (numbers_below (length c.args.covers.now)))
