use Rattle.std.proofs.Common.{◌<◌, ◌↔◌, false, length, get_or, sym, subst, ◌∙◌, arith}
use Rattle.std.specs.Prelude.{Contains}
use Rattle.std.proofs.lemmas.List.{get_or_default}
use Rattle.std.proofs.lemmas.Result.{IfOk-weaker}
use Rattle.ir_program.specs.Seen.{program_of}
use Rattle.plan_model.specs.Lendable.{compare_locals}
use Rattle.plan_model.specs.Needs.{no_need}
use Rattle.needs.specs.Lent.{IsLendableFor, IsLendableByNeeds}
use Rattle.need_lists.proofs.Exact.{exactly_by, appended}
use Rattle.needs.proofs.Lendables.{below_step, by_needs}
use Rattle.needs.proofs.lending.lendable.Goals as goal

pub loop-i-preserved : goal.loop-i-preserved
loop-i-preserved c = λ x.
    let p = program_of c.args.program.now in
    let ns = c.args.needs.now in
    let i = c.loop-i.i in
    let flags = c.in_ok-recursive.recursive.items in
    let m = c.in_ok-recursive.ensures.count in
    let below : i < length ns = omega arith in
    let there : i < length flags = omega arith in
    let n = c.index-needs-i.is ∙ get_or_default ns i c.index-needs-i.result no_need below in
    let b = c.index.ensures ∙ get_or_default flags i c.index.result.now false there in
    let h = subst (λ k. Contains c.in_ok-more.more.items x ↔ IsLendableFor p c.args.closed i k c.index.result.now x) n (c.in_ok-more.ensures x) in
    let k = subst (λ k. Contains c.in_ok-more.more.items x ↔ IsLendableFor p c.args.closed i (get_or ns i no_need) k x) b h in
    below_step (λ g. IsLendableFor p c.args.closed g (get_or ns g no_need) (get_or flags g false) x) (Contains c.loop-i.locals.items x) (Contains c.extend_from_slice.new.self.items x) i
    (c.loop-i.invariant x)
    (appended c.loop-i.locals.items c.extend_from_slice.new.self.items c.as_slice.result.now x (IsLendableFor p c.args.closed i (get_or ns i no_need) (get_or flags i false) x) c.in_ok-extend_from_slice.ensures.items
    (subst (λ l. Contains l x ↔ IsLendableFor p c.args.closed i (get_or ns i no_need) (get_or flags i false) x) (sym c.as_slice.ensures.value) k))

pub returns : goal.returns
returns c =
    let p = program_of c.args.program.now in
    let ns = c.args.needs.now in
    IfOk-weaker c.each_once.result _ _
    (λ ls e. exactly_by compare_locals (Contains c.loop-i.locals.items) (IsLendableByNeeds p c.args.closed ns) ls.items
    (λ x. by_needs p c.args.closed ns c.in_ok-recursive.recursive.items x c.loop-i.i (omega arith) c.in_ok-recursive.ensures.flags (Contains c.loop-i.locals.items x) (c.loop-i.invariant x)) e)
    c.each_once.ensures
