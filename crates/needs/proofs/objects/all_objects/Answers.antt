use Rattle.std.proofs.Common.{◌<◌, length, get_or, arith}
use Rattle.std.specs.Prelude.{Contains}
use Rattle.std.proofs.lemmas.List.{get_or_default}
use Rattle.std.proofs.lemmas.Result.{IfOk-weaker}
use Rattle.ir_model.specs.Objects.{object_by, compare_objects}
use Rattle.need_sets.specs.Sets.{sets_of}
use Rattle.needs.specs.declared.instructions.Use.TheVariants as uses
use Rattle.need_lists.specs.AnyOf.{AnyOf}
use Rattle.needs.specs.Accesses.{Reaches}
use Rattle.need_lists.proofs.Any.{any_step, any_whole}
use Rattle.need_lists.proofs.Exact.{exactly_by}
use Rattle.need_sets.proofs.Orders.{in_order}
use Rattle.needs.proofs.objects.all_objects.Goals as goal

pub loop-i-preserved : goal.loop-i-preserved
loop-i-preserved c = λ o.
    let us = c.args.uses.now in
    let i = c.loop-i.i in
    let below : i < length us = omega arith in
    any_step (Reaches (sets_of c.args.pts.now) c.args.func c.args.access (object_by o)) (Contains c.loop-i.objects.items o) (Contains c.push_objects.new.objects.items o)
    us i (get_or us i (uses.Load 0)) below (get_or_default us i (uses.Load 0) (get_or us i (uses.Load 0)) below) (c.loop-i.invariant o) (c.in_ok-push_objects.ensures o)

pub returns : goal.returns
returns c =
    IfOk-weaker c.each_once.result _ _
    (λ os e. exactly_by compare_objects (Contains c.loop-i.objects.items) (λ o. AnyOf (Reaches (sets_of c.args.pts.now) c.args.func c.args.access (object_by o)) c.args.uses.now) os.items
    (λ o. any_whole (Reaches (sets_of c.args.pts.now) c.args.func c.args.access (object_by o)) (Contains c.loop-i.objects.items o) c.args.uses.now c.loop-i.i (omega arith) (c.loop-i.invariant o)) (in_order (Contains c.loop-i.objects.items) os.items e))
    c.each_once.ensures
