use Rattle.std.proofs.Common.{arith, refl}
use Rattle.need_solving.proofs.Paying.{paid_pass}
use Rattle.need_solving.proofs.Passing.{pass_none, pass_next, pass_all, node_there, target_there}
use Rattle.need_solving.proofs.search.pass_on.Goals as goal

pub loop-to-init : goal.loop-to-init
loop-to-init g c = record { passing = pass_none c.args.system.now c.args.state.now c.args.pair c.requires.holds; steps = omega arith }

pub loop-to-preserved : goal.loop-to-preserved
loop-to-preserved g c = record { passing = pass_next c.args.system.now c.args.state.now c.loop-to.state c.put.new.self c.args.pair c.loop-to.place c.in_ok-place.place c.in-Some.to c.get.result (record { holds = c.requires.holds; next_in = c.requires.next; is = c.requires.pair }) c.loop-to.invariant.passing c.in_ok-place.ensures c.in_ok-put.ensures.put c.get.ensures c.in-Some.is; steps = omega arith }

pub put-requires-clause-node : goal.put-requires-clause-node
put-requires-clause-node g c = target_there c.args.system.now c.loop-to.state c.args.pair c.loop-to.place c.in-Some.to c.get.result c.loop-to.invariant.passing.holds c.get.ensures c.in-Some.is

pub returns-clause-holds : goal.returns-clause-holds
returns-clause-holds g c = pass_all c.args.system.now c.args.state.now c.loop-to.state c.args.pair c.loop-to.place c.in_ok-state.field-0 c.get.result (record { holds = c.requires.holds; next_in = c.requires.next; is = c.requires.pair }) c.loop-to.invariant.passing c.in_ok-state.ensures.next c.get.ensures c.in_default.is

pub returns-clause-paid : goal.returns-clause-paid
returns-clause-paid g c =
    let u = c.loop-to.invariant.passing.upto in
    let n = node_there c.args.system.now c.args.state.now c.args.state.now c.args.pair 0 (record { holds = c.requires.holds; next_in = c.requires.next; is = c.requires.pair }) (pass_none c.args.system.now c.args.state.now c.args.pair c.requires.holds) in
    let m = c.requires.holds.count in
    paid_pass c.args.state.now c.loop-to.state _ c.args.pair _ _ c.loop-to.invariant.passing.grown c.loop-to.invariant.passing.edges c.loop-to.invariant.passing.next c.requires.next c.requires.pair refl refl refl c.in_ok-state.ensures.next (omega arith) (omega arith)
