use Rattle.std.proofs.Common.{refl}
use Rattle.need_solving.proofs.Firing.{fire_none, fire_next, fire_asked}
use Rattle.need_solving.proofs.Paying.{paid_none, paid_both}
use Rattle.need_solving.proofs.search.fire.Goals as goal

pub loop-place-init : goal.loop-place-init
loop-place-init g c = record { firing = fire_none c.args.system.now c.args.state.now c.args.pair c.requires.holds; paid = paid_none c.args.state.now _ _ refl }

pub loop-place-preserved : goal.loop-place-preserved
loop-place-preserved g c =
    record {
      firing = fire_next c.args.system.now c.args.state.now c.loop-place.state c.pull.new.state c.args.pair c.loop-place.place c.trigger_at.result c.in-Some.trigger c.loop-place.invariant.firing c.trigger_at.ensures c.in-Some.is c.in_ok-pull.ensures.holds c.in_ok-pull.ensures.grown c.in_ok-pull.ensures.next c.in_ok-pull.ensures.found;
      paid = paid_both c.args.state.now c.loop-place.state c.pull.new.state _ c.loop-place.steps _ c.loop-place.invariant.paid c.in_ok-pull.ensures.paid;
    }

pub pull-requires-clause-asked : goal.pull-requires-clause-asked
pull-requires-clause-asked g c = fire_asked c.args.system.now c.args.state.now c.loop-place.state c.args.pair c.loop-place.place c.trigger_at.result c.in-Some.trigger c.loop-place.invariant.firing c.requires.there c.trigger_at.ensures c.in-Some.is
