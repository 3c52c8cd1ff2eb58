use Rattle.std.proofs.Common.{ℕ, Bool, ap, sym, ◌∙◌}
use Rattle.ir_model.specs.declared.object.ObjId.TheVariants.{Global}
use Rattle.plan_model.specs.Groups.{writes}
use Rattle.plan_policies.proofs.Numbers.{filtered_kept, filtered_dropped}
use Rattle.plan_graph.proofs.users.writers.Goals as goal
use Rattle.plan_graph.proofs.users.writers.Goals.{then-writes+in_ok-push, else-writes}

pub loop-compartment-preserved : goal.loop-compartment-preserved
loop-compartment-preserved c =
    let test : ℕ → Bool = λ k. writes c.args.needs.now c.args.groups.now k (Global c.args.global) in
    elim c.if-writes.branch [
      | then-writes+in_ok-push w ↦ filtered_kept test c.loop-compartment.compartment c.loop-compartment.writers.items _ (sym c.writes.ensures ∙ w.if-writes.true) c.loop-compartment.invariant (ap (λ v. v.items) w.writers-is ∙ w.in_ok-push.ensures.items)
      | else-writes w ↦ filtered_dropped test c.loop-compartment.compartment c.loop-compartment.writers.items _ (sym c.writes.ensures ∙ w.if-writes.false) c.loop-compartment.invariant (ap (λ v. v.items) w.writers-is)
    ]
