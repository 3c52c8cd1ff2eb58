use Rattle.std.proofs.Common.{◌≡◌, ◌↔◌, ◌<◌, true, false, length, get_or, ap, subst, ◌∙◌, arith}
use Rattle.std.specs.Prelude.{Contains}
use Rattle.std.proofs.lemmas.List.{get_or_default}
use Rattle.plan_model.specs.Needs.{no_need}
use Rattle.needs.proofs.Closing.{rows_pushed}
use Rattle.needs.proofs.reaching.callee_rows.Goals as goal

pub loop-i-init : goal.loop-i-init
loop-i-init c = record { count = ap length c.new-rows.ensures.items; each = λ f h. absurd (omega arith); flags = λ f g h. absurd (omega arith) }

pub loop-i-preserved : goal.loop-i-preserved
loop-i-preserved c =
    let ns = c.args.needs.now in
    let i = c.loop-i.i in
    let below : i < length ns = omega arith in
    let e = c.as_slice.ensures ∙ ap (λ n. n.callees) (get_or_default ns i c.index-needs-i.result no_need below) in
    rows_pushed ns i c.loop-i.rows.items c.push.new.self.items c.in_ok-with.field-0 c.in_ok-push.ensures.items below c.loop-i.invariant c.in_ok-with.ensures.len
    (λ g l. subst (λ s. (get_or c.in_ok-with.field-0 g false ≡ true) ↔ Contains s g) e (c.in_ok-with.ensures.flags g l))

pub returns-clause-square : goal.returns-clause-square
returns-clause-square c =
    let v = c.loop-i.invariant in
    let n = v.count in
    record { count = omega arith; each = λ f h. v.each f (omega arith) }

pub returns-clause-flags : goal.returns-clause-flags
returns-clause-flags c = λ f g h l. c.loop-i.invariant.flags f g (omega arith) l
