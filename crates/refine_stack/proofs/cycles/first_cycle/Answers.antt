use Rattle.std.proofs.Common.{refl, sym, subst, arith}
use Rattle.std.proofs.lemmas.Bool.{false≢true}
use Rattle.refine_stack.specs.Far.{IsOnCycle}
use Rattle.refine_stack.proofs.Rings.{is_cycle, none_more, none_at_all}
use Rattle.refine_stack.proofs.cycles.first_cycle.Goals as goal

pub returns-then-is_on_cycle : goal.returns-then-is_on_cycle
returns-then-is_on_cycle c =
    let far = c.in_ok-far.far.items in
    let on = subst (λ l. IsOnCycle l c.loop-func.func c.args.main) c.as_slice.ensures.value (c.if-is_on_cycle.ensures.0 refl) in
    is_cycle c.args.calls.now c.args.main c.loop-func.func far c.in_ok-path.path.items c.in_ok-far.ensures.far c.loop-func.invariant on.0 on.1 c.in_ok-path.ensures

pub loop-func-preserved : goal.loop-func-preserved
loop-func-preserved c =
    let far = c.in_ok-far.far.items in
    none_more c.args.calls.now c.args.main c.loop-func.func far c.in_ok-far.ensures.far c.loop-func.invariant
    (λ p q. false≢true (c.if-is_on_cycle.ensures.1 (subst (λ l. IsOnCycle l c.loop-func.func c.args.main) (sym c.as_slice.ensures.value) (p, q))))

pub returns : goal.returns
returns c = none_at_all c.args.calls.now c.args.main c.args.count c.requires.main c.requires.there (λ f l r s. c.loop-func.invariant f (omega arith) r s)
