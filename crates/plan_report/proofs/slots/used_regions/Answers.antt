use Rattle.std.proofs.Common.{ℕ, Bool, ap, sym, ◌∙◌}
use Rattle.plan_model.specs.Regions.{is_user, region_at}
use Rattle.plan_policies.proofs.Numbers.{filtered_kept, filtered_dropped}
use Rattle.plan_report.proofs.slots.used_regions.Goals as goal
use Rattle.plan_report.proofs.slots.used_regions.Goals.{then-is_used_at+in_ok-push, else-is_used_at}

pub loop-region-preserved : goal.loop-region-preserved
loop-region-preserved c =
    let test : ℕ → Bool = λ k. is_user c.args.compartment (region_at c.args.regions.now k) in
    elim c.if-is_used_at.branch [
      | then-is_used_at+in_ok-push w ↦ filtered_kept test c.loop-region.region c.loop-region.used.items _ (sym c.is_used_at.ensures ∙ w.if-is_used_at.true) c.loop-region.invariant (ap (λ v. v.items) w.used-is ∙ w.in_ok-push.ensures.items)
      | else-is_used_at w ↦ filtered_dropped test c.loop-region.region c.loop-region.used.items _ (sym c.is_used_at.ensures ∙ w.if-is_used_at.false) c.loop-region.invariant (ap (λ v. v.items) w.used-is)
    ]
