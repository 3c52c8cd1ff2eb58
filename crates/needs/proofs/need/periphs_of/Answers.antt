use Rattle.std.proofs.Common.{◌≡◌, ◌<◌, length, get_or, subst, refl, arith}
use Rattle.std.specs.Prelude.{Contains}
use Rattle.std.proofs.lemmas.List.{get_or_default}
use Rattle.ir_model.specs.declared.object.ObjId.TheVariants as id
use Rattle.need_lists.proofs.Any.{any_step, any_whole}
use Rattle.needs.proofs.need.periphs_of.Goals as goal

pub loop-i-preserved : goal.loop-i-preserved
loop-i-preserved c = λ q.
    let os = c.args.objects.now in
    let i = c.loop-i.i in
    let below : i < length os = omega arith in
    any_step (λ o. o ≡ id.Periph q) (Contains c.loop-i.periphs.items q) (Contains c.push_periph.new.periphs.items q)
    os i (get_or os i (id.Global 0)) below (get_or_default os i (id.Global 0) (get_or os i (id.Global 0)) below) (c.loop-i.invariant q) (c.in_ok-push_periph.ensures q)

pub returns : goal.returns
returns c = λ q.
    let a = any_whole (λ o. o ≡ id.Periph q) (Contains c.loop-i.periphs.items q) c.args.objects.now c.loop-i.i (omega arith) (c.loop-i.invariant q) in (
      (λ h. let x = a.0 h in subst (Contains c.args.objects.now) x.holds x.listed),
      λ h. a.1 (record { item = id.Periph q; listed = h; holds = refl }),
    )
