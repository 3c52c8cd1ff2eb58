use Rattle.std.proofs.Common.{◌<◌, ◌↔◌, length, sym, subst, arith}
use Rattle.std.specs.Prelude.{Contains}
use Rattle.need_lists.specs.AnyOf.{AnyOf}
use Rattle.need_lists.proofs.Any.{any_step, any_whole}
use Rattle.need_lists.proofs.Exact.{appended}
use Rattle.refine_stack.specs.Listed.{IsCallTo, IsCallAt}
use Rattle.refine_stack.proofs.calls.calls_of.Goals as goal

pub loop-i-preserved : goal.loop-i-preserved
loop-i-preserved c = λ x.
    let sites = c.as_slice-sites.result.now in
    let g = c.args.groups.now in
    let i = c.loop-i.i in
    let s = c.index-sites-i.result in
    let more = c.in_ok-more.more.items in
    let below : i < length sites = omega arith in
    let h1 = subst (λ l. Contains more x ↔ AnyOf (λ t. IsCallTo s.func c.crosses.result t x) l) c.as_slice.ensures (c.in_ok-more.ensures x) in
    let h2 = subst (λ b. Contains more x ↔ AnyOf (λ t. IsCallTo s.func b t x) s.targets) c.crosses.ensures h1 in
    any_step (λ s. IsCallAt g s x) (Contains c.loop-i.calls.items x) (Contains c.extend_from_slice.new.self.items x)
    sites i s below c.index-sites-i.is (c.loop-i.invariant x)
    (appended c.loop-i.calls.items c.extend_from_slice.new.self.items c.as_slice-in-loop-i.result.now x (IsCallAt g s x) c.in_ok-extend_from_slice.ensures.items
    (subst (λ l. Contains l x ↔ IsCallAt g s x) (sym c.as_slice-in-loop-i.ensures.value) h2))

pub returns : goal.returns
returns c = λ x.
    subst (λ l. Contains c.loop-i.calls.items x ↔ AnyOf (λ s. IsCallAt c.args.groups.now s x) l) c.as_slice-sites.ensures
    (any_whole (λ s. IsCallAt c.args.groups.now s x) (Contains c.loop-i.calls.items x) c.as_slice-sites.result.now c.loop-i.i (omega arith) (c.loop-i.invariant x))
