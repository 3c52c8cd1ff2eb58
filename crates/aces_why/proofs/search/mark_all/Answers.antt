use Rattle.std.proofs.Common.{length, refl, ◌∙◌, arith}
use Rattle.aces_why.proofs.Marking.{all_marked, to_all}
use Rattle.aces_why.proofs.search.mark_all.Goals as goal

pub loop-i-preserved : goal.loop-i-preserved
loop-i-preserved c =
    let v = c.loop-i.invariant in
    let m = c.in_ok-mark.ensures in
    let a = v.longer in
    let b = m.longer in
    record {
      count = m.count ∙ v.count;
      marks = m.marks;
      longer = omega arith;
      kept = λ k l. m.kept k (omega arith) ∙ v.kept k l;
      flags = all_marked c.args.flags.now.items c.loop-i.flags.items c.mark.new.flags.items c.args.numbers.now c.loop-i.i (length c.args.flags.now.items) _ (omega arith) refl v.count v.flags m.flags;
    }

pub returns-clause-flags : goal.returns-clause-flags
returns-clause-flags c = to_all c.args.flags.now.items c.loop-i.flags.items c.args.numbers.now c.loop-i.i (omega arith) c.loop-i.invariant.flags
