use Rattle.std.proofs.Common.{map, subst, ap, ◌∙◌, arith}
use Rattle.std.specs.Prelude.{Contains}
use Rattle.std.proofs.lemmas.List.{take_all}
use Rattle.std.proofs.lemmas.Result.{IfOk-weaker}
use Rattle.ir_model.specs.Objects.{compare_objects}
use Rattle.plan_model.specs.Lists.{ListsExactly}
use Rattle.need_sets.specs.Pairs.{object_at}
use Rattle.need_sets.proofs.Orders.{in_order}
use Rattle.need_sets.proofs.finish.named.Goals as goal

pub returns : goal.returns
returns c =
    IfOk-weaker c.each_once.result _ _
    (λ os e. subst (λ l. ListsExactly compare_objects (Contains l) os.items)
    (c.loop-place.invariant ∙ ap (map (object_at c.args.by_number.now)) (take_all c.loop-place.place-index c.args.places.now (omega arith)))
    (in_order (Contains c.loop-place.objects.items) os.items e))
    c.each_once.ensures
