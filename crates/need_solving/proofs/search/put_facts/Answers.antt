use Rattle.std.proofs.Common.{◌≤◌, arith}
use Rattle.need_solving.specs.Searching.{cost}
use Rattle.need_solving.proofs.Starting.{put_none, put_next}
use Rattle.need_solving.proofs.Putting.{grown_put}
use Rattle.need_solving.proofs.Paying.{cost_grown}
use Rattle.need_solving.proofs.search.put_facts.Goals as goal

pub loop-place-init : goal.loop-place-init
loop-place-init g c = record { putting = put_none c.args.system.now c.args.state.now c.requires.holds; steps = omega arith }

pub loop-place-preserved : goal.loop-place-preserved
loop-place-preserved g c =
    let n = c.loop-place.invariant.putting.grown.count in
    let m = c.requires.holds.count in
    let o = c.loop-place.invariant.putting.grown.objects in
    let p = c.in_ok-put.ensures.put in
    let more : cost c.loop-place.state ≤ cost c.put.new.self = cost_grown c.loop-place.state c.put.new.self (grown_put c.loop-place.state c.put.new.self c.fact_at-fact.result.node c.fact_at-fact.result.object p) p.edges p.next c.loop-place.invariant.putting.holds.next_in in
    record {
      putting = put_next c.args.system.now c.args.state.now c.loop-place.state c.put.new.self c.fact_at-fact.result c.loop-place.place c.loop-place.invariant.putting c.fact_at-fact.ensures (omega arith) c.in_ok-put.ensures.put (omega arith) (omega arith);
      steps = omega arith;
    }
