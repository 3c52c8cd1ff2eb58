use Rattle.std.proofs.Common.{◌<◌, false, length, get_or, arith}
use Rattle.refine_stack.specs.Listed.{call}
use Rattle.refine_stack.proofs.Raised.{there_at, item_at, told_more}
use Rattle.refine_stack.proofs.deepest.round.Goals as goal

pub relax-requires-clause-there : goal.relax-requires-clause-there
relax-requires-clause-there c =
    let cs = c.args.calls.now in
    let below : c.loop-i.i < length cs = omega arith in
    there_at (length c.args.taken.now) (length c.loop-i.taken) c.loop-i.i cs (get_or cs c.loop-i.i (call 0 0 false)) c.requires.there c.loop-i.invariant.count below (item_at cs c.loop-i.i (call 0 0 false) below)

pub loop-i-preserved : goal.loop-i-preserved
loop-i-preserved c =
    let cs = c.args.calls.now in
    let below : c.loop-i.i < length cs = omega arith in
    told_more c.args.frames.now c.args.stack cs c.args.main c.loop-i.i c.args.taken.now c.loop-i.taken c.relax.new.taken c.loop-i.changed c.in_ok-raised.raised (get_or cs c.loop-i.i (call 0 0 false)) below
    (item_at cs c.loop-i.i (call 0 0 false) below) c.relax.auto.taken c.loop-i.invariant c.in_ok-raised.ensures
