use Rattle.std.proofs.Common.{◌≡◌, ℕ, ◌<◌, Bool, length, sym, ap, ◌∙◌, arith}
use Rattle.plan_model.specs.InitialGraph.{same_users}
use Rattle.plan_policies.proofs.Numbers.{filtered_kept, filtered_dropped}
use Rattle.plan_graph.specs.UserLists.{users_seen, users_at}
use Rattle.plan_graph.proofs.DifferentUsers.{users_read}
use Rattle.plan_graph.proofs.regions.globals_of.Goals as goal
use Rattle.plan_graph.proofs.regions.globals_of.Goals.{then-are_same+in_ok-push, else-are_same}

pub loop-global-preserved : goal.loop-global-preserved
loop-global-preserved c =
    let test : ℕ → Bool = λ x. same_users (users_at c.args.all.now x) (users_seen c.args.kind.now) in
    let there : c.loop-global.global < length c.args.all.now = omega arith in
    let tested : test c.loop-global.global ≡ c.are_same.result = ap (λ u. same_users u (users_seen c.args.kind.now)) (users_read c.args.all.now c.loop-global.global c.index-all-global.result there c.index-all-global.is) ∙ sym c.are_same.ensures in
    elim c.if-are_same.branch [
      | then-are_same+in_ok-push w ↦ filtered_kept test c.loop-global.global c.loop-global.globals.items _ (tested ∙ w.if-are_same.true) c.loop-global.invariant (ap (λ v. v.items) w.globals-is ∙ w.in_ok-push.ensures.items)
      | else-are_same w ↦ filtered_dropped test c.loop-global.global c.loop-global.globals.items _ (tested ∙ w.if-are_same.false) c.loop-global.invariant (ap (λ v. v.items) w.globals-is)
    ]
