use Rattle.ir_program.specs.Seen.{program_of}
use Rattle.plan_graph.proofs.Learned.{learned_more}
use Rattle.plan_graph.proofs.merging.merging_of.Goals as goal

pub loop-i-preserved : goal.loop-i-preserved
loop-i-preserved c =
    let told = c.in_ok-number.ensures.known in
    record {
      learned = learned_more (program_of c.args.program.now) c.as_slice-regions.result.now c.loop-i.i c.index-regions-i.result c.loop-i.known.items c.learn.new.known.items told.0 c.loop-i.numbers.items c.push.new.self.items
          c.in_ok-number.number c.loop-i-test.true c.index-regions-i.is c.loop-i.invariant.learned told.1 told.2 c.in_ok-number.ensures.number c.in_ok-push.ensures.items;
      costs = c.in_ok-number.ensures.costs;
    }
