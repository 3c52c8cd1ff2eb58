use Rattle.std.proofs.Common.{ℕ, Bool, ap, sym, ◌∙◌}
use Rattle.plan_model.specs.Regions.{is_user, region_at}
use Rattle.plan_policies.proofs.Numbers.{filtered_kept, filtered_dropped}
use Rattle.plan_graph.proofs.merging.Merging.regions_used.Goals as goal
use Rattle.plan_graph.proofs.merging.Merging.regions_used.Goals.{then-is_used+in_ok-push, else-is_used}

pub loop-place-preserved : goal.loop-place-preserved
loop-place-preserved c =
    let test : ℕ → Bool = λ r. is_user c.args.compartment (region_at c.args.self.now.graph.regions r) in
    elim c.if-is_used.branch [
      | then-is_used+in_ok-push w ↦ filtered_kept test c.loop-place.place c.loop-place.used.items _ (sym c.is_used.ensures ∙ w.if-is_used.true) c.loop-place.invariant (ap (λ v. v.items) w.used-is ∙ w.in_ok-push.ensures.items)
      | else-is_used w ↦ filtered_dropped test c.loop-place.place c.loop-place.used.items _ (sym c.is_used.ensures ∙ w.if-is_used.false) c.loop-place.invariant (ap (λ v. v.items) w.used-is)
    ]
