use Rattle.ir_run.proofs.Reading.{spot_more}
use Rattle.ir_run.proofs.below.Below.put_spots.Goals as goal

pub loop-i-preserved : goal.loop-i-preserved
loop-i-preserved c =
    spot_more c.as_slice-frames.result.now c.loop-i.i c.index-frames-frames.result c.args.spots.now.items c.loop-i.spots.items c.push.new.self.items c.standing.result
    c.loop-i-test.true c.index-frames-frames.is c.standing.ensures c.loop-i.invariant c.in_ok-push.ensures.items
