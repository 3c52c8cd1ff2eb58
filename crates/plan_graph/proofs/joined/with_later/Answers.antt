use Rattle.std.proofs.Common.{ℕ, ap}
use Rattle.plan_model.specs.Merging.{cover_cost}
use Rattle.plan_graph.specs.declared.choices.Choice.{Choice}
use Rattle.plan_graph.proofs.Cheapest.{later_ranged}
use Rattle.plan_graph.proofs.joined.with_later.Goals as goal

pub loop-second-preserved : goal.loop-second-preserved
loop-second-preserved c =
    later_ranged (cover_cost c.args.covers.now) c.args.first c.loop-second.second c.args.best c.loop-second.best c.cheaper-best.result
    (record { first = c.args.first; second = c.loop-second.second; cost = c.joined_size-cost.result }) c.loop-second.auto.second c.loop-second.invariant
    (ap (λ (k : ℕ). let x : Choice = record { first = c.args.first; second = c.loop-second.second; cost = k } in x) c.joined_size-cost.ensures.size) c.cheaper-best.ensures
