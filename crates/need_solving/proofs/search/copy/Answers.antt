use Rattle.std.proofs.Common.{arith}
use Rattle.need_solving.proofs.Copying.{copy_none, copy_next, copy_all, asked_allowed}
use Rattle.need_solving.proofs.search.copy.Goals as goal

pub loop-object-init : goal.loop-object-init
loop-object-init g c = record { copying = copy_none c.args.system.now c.args.state.now c.args.edge c.requires.holds; steps = omega arith }

pub loop-object-preserved : goal.loop-object-preserved
loop-object-preserved g c =
    record {
      copying =
          copy_next c.args.system.now c.args.state.now c.loop-object.state c.put.new.self c.args.edge c.loop-object.place c.in_ok-place.place c.in-Some.object c.member.result c.loop-object.invariant.copying c.in_ok-place.ensures c.in_ok-put.ensures.put c.requires.apart c.requires.to c.in-Some.ensures.within c.member.ensures.exact c.in-Some.is
          (asked_allowed c.args.system.now c.args.state.now.pairs.rows c.args.state.now.pairs.objects c.args.state.now.log c.args.state.now.edges c.args.state.now.next c.args.edge c.requires.holds c.requires.asked);
      steps = omega arith;
    }

pub returns : goal.returns
returns g c =
    let h = c.loop-object.invariant.copying.upto in
    record {
      holds = c.loop-object.invariant.copying.holds;
      copied = copy_all c.args.system.now c.args.state.now c.loop-object.state c.args.edge c.loop-object.place c.member.result c.loop-object.invariant.copying c.member.ensures.exact c.in_default.is;
      counted = omega arith;
    }
