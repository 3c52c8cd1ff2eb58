use Rattle.std.proofs.Common.{drop, ap, arith}
use Rattle.std.proofs.lemmas.List.{drop_more}
use Rattle.machine_thumb.specs.declared.table.Instr.TheVariants.{ShiftImmediate}
use Rattle.machine_thumb_asm.specs.declared.item.Item.TheVariants.{Plain}
use Rattle.machine_thumb_asm.specs.Assembly.{Assembly, total}
use Rattle.machine_thumb_asm.proofs.Reaching.{goes, piece_at, put_piece, even_so_far}
use Rattle.machine_thumb_asm.proofs.encoding.put_items.Goals as goal

pub put_item-requires-clause-item : goal.put_item-requires-clause-item
put_item-requires-clause-item c = piece_at _ c.args.items.now c.loop-item.item-index _ c.requires.whole.items c.loop-item-test.true

pub put_item-requires-clause-put : goal.put_item-requires-clause-put
put_item-requires-clause-put c =
    let a : Assembly = record { base = c.args.base; items = c.args.items.now; places = c.args.places.now } in
    goes a c.loop-item.at _ c.requires.whole (even_so_far c.loop-item.at c.args.base (drop c.loop-item.item-index c.args.items.now) c.args.items.now c.loop-item.invariant.room)
    (put_piece c.args.places.now c.args.items.now c.loop-item.item-index _ c.requires.put c.loop-item-test.true)

pub put_item-requires-clause-at : goal.put_item-requires-clause-at
put_item-requires-clause-at c =
    let e = ap total (drop_more c.args.items.now c.loop-item.item-index (Plain (ShiftImmediate 0 0 0 0)) c.loop-item-test.true) in
    omega (arith, c.requires.whole.room, c.loop-item.invariant.room, e)
