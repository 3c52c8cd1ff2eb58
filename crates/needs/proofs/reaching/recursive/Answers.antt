use Rattle.std.proofs.Common.{◌<◌, sym, subst, ◌∙◌, arith}
use Rattle.needs.specs.Reaching.{IsClosedBy}
use Rattle.needs.proofs.Closing.{is_recursive}
use Rattle.needs.proofs.reaching.recursive.Goals as goal

pub returns-clause-flags : goal.returns-clause-flags
returns-clause-flags c = λ f l.
    let square = c.in_ok-rows.ensures.square in
    let first = c.in_ok-rows.rows.items in
    let rows = c.close.new.rows.items in
    let n = square.count in
    let m = c.in_ok-close.ensures.square.count in
    let below : f < c.loop-i.i = omega arith in
    let e = c.loop-i.invariant.each f below in
    let r = is_recursive c.args.needs.now first rows square c.in_ok-rows.ensures.flags (subst (λ k. IsClosedBy k first rows) square.count c.in_ok-close.ensures.closed) f in (
      (λ h. r.0 (sym e ∙ h)),
      λ h. e ∙ r.1 h,
    )
