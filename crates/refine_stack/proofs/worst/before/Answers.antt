use Rattle.std.proofs.Common.{◌<◌, false, length, get_or, refl, arith}
use Rattle.refine_stack.specs.Listed.{call}
use Rattle.refine_stack.proofs.Raised.{there_at, item_at}
use Rattle.refine_stack.proofs.Chains.{given_more}
use Rattle.refine_stack.proofs.worst.before.Goals as goal

pub lowered-requires-clause-there : goal.lowered-requires-clause-there
lowered-requires-clause-there c =
    let cs = c.args.calls.now in
    let below : c.loop-i.i < length cs = omega arith in
    there_at (length c.args.taken.now) (length c.args.taken.now) c.loop-i.i cs (get_or cs c.loop-i.i (call 0 0 false)) c.requires.there refl below (item_at cs c.loop-i.i (call 0 0 false) below)

pub loop-i-preserved : goal.loop-i-preserved
loop-i-preserved c =
    let cs = c.args.calls.now in
    let below : c.loop-i.i < length cs = omega arith in
    given_more c.args.frames.now c.args.stack cs c.args.taken.now c.args.func c.loop-i.i c.loop-i.least c.in_ok-least.least (get_or cs c.loop-i.i (call 0 0 false)) below
    (item_at cs c.loop-i.i (call 0 0 false) below) c.loop-i.invariant c.in_ok-least.ensures
