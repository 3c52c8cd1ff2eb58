use Rattle.std.proofs.Common.{◌≡◌, ℕ, ◌<◌, Bool, not, length, sym, ap, ◌∙◌, arith}
use Rattle.plan_model.specs.InitialGraph.{has_users}
use Rattle.plan_policies.proofs.Numbers.{filtered_kept, filtered_dropped}
use Rattle.plan_graph.specs.UserLists.{users_at}
use Rattle.plan_graph.proofs.DifferentUsers.{users_read}
use Rattle.plan_graph.proofs.regions.unwritten.Goals as goal
use Rattle.plan_graph.proofs.regions.unwritten.Goals.{then-alone+in_ok-push, else-alone}

pub loop-global-preserved : goal.loop-global-preserved
loop-global-preserved c =
    let test : ℕ → Bool = λ x. not (has_users (users_at c.args.all.now x)) in
    let there : c.loop-global.global < length c.args.all.now = omega arith in
    let tested : test c.loop-global.global ≡ not c.has_any-alone.result = ap (λ u. not (has_users u)) (users_read c.args.all.now c.loop-global.global c.index-all-global.result there c.index-all-global.is) ∙ ap not (sym c.has_any-alone.ensures) in
    elim c.if-alone.branch [
      | then-alone+in_ok-push w ↦ filtered_kept test c.loop-global.global c.loop-global.globals.items _ (tested ∙ ap not w.if-alone.true) c.loop-global.invariant (ap (λ v. v.items) w.globals-is ∙ w.in_ok-push.ensures.items)
      | else-alone w ↦ filtered_dropped test c.loop-global.global c.loop-global.globals.items _ (tested ∙ ap not w.if-alone.false) c.loop-global.invariant (ap (λ v. v.items) w.globals-is)
    ]
