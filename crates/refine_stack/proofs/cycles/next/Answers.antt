use Rattle.std.proofs.Common.{◌<◌, false, length, get_or, refl, arith}
use Rattle.refine_stack.specs.Listed.{call}
use Rattle.refine_stack.proofs.Raised.{there_at, item_at}
use Rattle.refine_stack.proofs.Rings.{lowest_more}
use Rattle.refine_stack.proofs.cycles.next.Goals as goal

pub lowered-least-requires : goal.lowered-least-requires
lowered-least-requires c =
    let cs = c.args.calls.now in
    let below : c.loop-i.i < length cs = omega arith in
    there_at (length c.args.far.now) (length c.args.far.now) c.loop-i.i cs (get_or cs c.loop-i.i (call 0 0 false)) c.requires refl below (item_at cs c.loop-i.i (call 0 0 false) below)

pub loop-i-preserved : goal.loop-i-preserved
loop-i-preserved c =
    let cs = c.args.calls.now in
    let below : c.loop-i.i < length cs = omega arith in
    lowest_more cs c.args.far.now c.args.from c.args.more c.loop-i.i c.loop-i.least c.lowered-least.result (get_or cs c.loop-i.i (call 0 0 false)) below (item_at cs c.loop-i.i (call 0 0 false) below)
    c.loop-i.invariant c.lowered-least.ensures
