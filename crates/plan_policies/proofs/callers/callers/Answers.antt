use Rattle.std.proofs.Common.{ap, sym, ◌∙◌, ◌&&◌, not, nat_eq, ℕ, Bool}
use Rattle.plan_model.specs.Lists.{has}
use Rattle.plan_model.specs.Needs.{need_of}
use Rattle.plan_policies.proofs.Numbers.{filtered_kept, filtered_dropped}
use Rattle.plan_policies.proofs.callers.callers.Goals as goal
use Rattle.plan_policies.proofs.callers.callers.Goals.{then-calls+in_ok-push, else-calls}

pub loop-caller-preserved : goal.loop-caller-preserved
loop-caller-preserved c =
    let test : ℕ → Bool = λ h. not (nat_eq h c.args.func) && has (need_of c.args.needs.now h).callees c.args.func in
    elim c.if-calls.branch [
      | then-calls+in_ok-push w ↦ filtered_kept test c.loop-caller.caller c.loop-caller.callers.items _ (sym c.is_caller-calls.ensures ∙ w.if-calls.true) c.loop-caller.invariant (ap (λ v. v.items) w.callers-is ∙ w.in_ok-push.ensures.items)
      | else-calls w ↦ filtered_dropped test c.loop-caller.caller c.loop-caller.callers.items _ (sym c.is_caller-calls.ensures ∙ w.if-calls.false) c.loop-caller.invariant (ap (λ v. v.items) w.callers-is)
    ]
