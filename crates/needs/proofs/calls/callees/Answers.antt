use Rattle.std.proofs.Common.{◌<◌, length, get_or, arith}
use Rattle.std.specs.Prelude.{Contains}
use Rattle.std.specs.Ordering.{nat_cmp}
use Rattle.std.proofs.lemmas.List.{get_or_default}
use Rattle.std.proofs.lemmas.Result.{IfOk-weaker}
use Rattle.needs.specs.declared.instructions.Use.TheVariants as uses
use Rattle.need_lists.specs.AnyOf.{AnyOf}
use Rattle.needs.specs.Accesses.{Calls}
use Rattle.need_lists.proofs.Any.{any_step, any_whole}
use Rattle.need_lists.proofs.Exact.{exactly_by}
use Rattle.needs.proofs.calls.callees.Goals as goal

pub loop-i-preserved : goal.loop-i-preserved
loop-i-preserved c = λ p S f g h.
    let us = c.args.uses.now in
    let i = c.loop-i.i in
    let below : i < length us = omega arith in
    any_step (Calls p S f g) (Contains c.loop-i.callees.items g) (Contains c.push_callees.new.callees.items g)
    us i (get_or us i (uses.Load 0)) below (get_or_default us i (uses.Load 0) (get_or us i (uses.Load 0)) below) (c.loop-i.invariant p S f g h) (c.in_ok-push_callees.ensures p S f g h)

pub returns : goal.returns
returns c =
    IfOk-weaker c.each_once.result _ _
    (λ cs e p S f h. exactly_by nat_cmp (Contains c.loop-i.callees.items) (λ g. AnyOf (Calls p S f g) c.args.uses.now) cs.items
    (λ g. any_whole (Calls p S f g) (Contains c.loop-i.callees.items g) c.args.uses.now c.loop-i.i (omega arith) (c.loop-i.invariant p S f g h)) e)
    c.each_once.ensures
