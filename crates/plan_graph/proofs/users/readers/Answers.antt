use Rattle.std.proofs.Common.{ℕ, Bool, ap, sym, ◌∙◌}
use Rattle.ir_model.specs.declared.object.ObjId.TheVariants.{Global}
use Rattle.plan_model.specs.Groups.{reads}
use Rattle.plan_policies.proofs.Numbers.{filtered_kept, filtered_dropped}
use Rattle.plan_graph.proofs.users.readers.Goals as goal
use Rattle.plan_graph.proofs.users.readers.Goals.{then-reads+in_ok-push, else-reads}

pub loop-compartment-preserved : goal.loop-compartment-preserved
loop-compartment-preserved c =
    let test : ℕ → Bool = λ k. reads c.args.needs.now c.args.groups.now k (Global c.args.global) in
    elim c.if-reads.branch [
      | then-reads+in_ok-push w ↦ filtered_kept test c.loop-compartment.compartment c.loop-compartment.readers.items _ (sym c.reads.ensures ∙ w.if-reads.true) c.loop-compartment.invariant (ap (λ v. v.items) w.readers-is ∙ w.in_ok-push.ensures.items)
      | else-reads w ↦ filtered_dropped test c.loop-compartment.compartment c.loop-compartment.readers.items _ (sym c.reads.ensures ∙ w.if-reads.false) c.loop-compartment.invariant (ap (λ v. v.items) w.readers-is)
    ]
