use Rattle.std.proofs.Common.{◌<◌, [], length, sym, subst, ◌∙◌}
use Rattle.std.specs.Ordering.{nat_cmp}
use Rattle.std.proofs.lemmas.List.{get_or_default}
use Rattle.plan_model.specs.Lists.{ListsExactly}
use Rattle.needs.specs.Accesses.{Calls, IsTarget}
use Rattle.needs.specs.Bounds.{IsBelow}
use Rattle.need_lists.proofs.Exact.{appended}
use Rattle.needs.proofs.calls.push_callees.Goals as goal

pub returns-in_ok-extend_from_slice-in-Indirect : goal.returns-in_ok-extend_from_slice-in-Indirect
returns-in_ok-extend_from_slice-in-Indirect c = λ p S f g h.
    let ts = c.args.targets.now in
    let r = c.in-Indirect.register in
    let below : r < length ts = subst (IsBelow (length ts)) c.in-Indirect.is c.requires in
    let e = c.as_slice.ensures ∙ (c.index-targets-register.is ∙ get_or_default ts r c.index-targets-register.result [] below) in
    let l = subst (ListsExactly nat_cmp (IsTarget p S f r)) (sym e) (h r below) in
    appended c.args.callees.now.items c.extend_from_slice.new.self.items c.as_slice.result.now g (Calls p S f g c.args.by) c.in_ok-extend_from_slice-in-Indirect.ensures.items
    ((λ k. subst (Calls p S f g) (sym c.in-Indirect.is) (l.each g k)), λ k. l.all g (subst (Calls p S f g) c.in-Indirect.is k))
