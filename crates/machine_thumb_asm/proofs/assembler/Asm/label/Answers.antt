use Rattle.machine_thumb_asm.proofs.Pieces.{labelled}
use Rattle.machine_thumb_asm.proofs.assembler.Asm.label.Goals as goal

pub invariant_of-self-2 : goal.invariant_of-self-2
invariant_of-self-2 c =
    let e = c.in_ok-push.ensures.items in
    rw e (c.self.invariant.0, labelled (record { base = c.self.inside.base; items = c.self.inside.items.items; places = c.self.inside.places.items }) c.self.invariant.1)
