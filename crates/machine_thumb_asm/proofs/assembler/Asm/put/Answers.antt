use Rattle.machine_thumb_asm.proofs.Pieces.{grown}
use Rattle.machine_thumb_asm.proofs.assembler.Asm.put.Goals as goal

pub invariant_of-self-2 : goal.invariant_of-self-2
invariant_of-self-2 c =
    let v = c.self.view_is in
    let item = rw (← v) at c.requires.item in
    let room = rw (← v, c.requires.size) at c.requires.room in
    rw (c.in_ok-push.ensures.items, c.requires.size)
    (grown (record { base = c.self.inside.base; items = c.self.inside.items.items; places = c.self.inside.places.items }) c.args.item c.self.inside.next c.self.invariant.1 item c.self.invariant.0 room)
