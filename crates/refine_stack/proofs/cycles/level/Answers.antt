use Rattle.std.proofs.Common.{◌<◌, false, length, get_or, arith}
use Rattle.refine_stack.specs.Listed.{call}
use Rattle.refine_stack.proofs.Raised.{there_at, item_at}
use Rattle.refine_stack.proofs.Levels.{marked_more}
use Rattle.refine_stack.proofs.cycles.level.Goals as goal

pub mark-marked-requires-clause-there : goal.mark-marked-requires-clause-there
mark-marked-requires-clause-there c =
    let cs = c.args.calls.now in
    let below : c.loop-i.i < length cs = omega arith in
    there_at (length c.args.far.now) (length c.loop-i.far) c.loop-i.i cs (get_or cs c.loop-i.i (call 0 0 false)) c.requires.there c.loop-i.invariant.count below (item_at cs c.loop-i.i (call 0 0 false) below)

pub loop-i-preserved : goal.loop-i-preserved
loop-i-preserved c =
    let cs = c.args.calls.now in
    let below : c.loop-i.i < length cs = omega arith in
    marked_more cs c.args.to c.args.more c.loop-i.i c.args.far.now c.loop-i.far c.mark-marked.new.far c.loop-i.changed c.mark-marked.result (get_or cs c.loop-i.i (call 0 0 false)) below
    (item_at cs c.loop-i.i (call 0 0 false) below) c.mark-marked.auto.far c.loop-i.invariant c.mark-marked.ensures
