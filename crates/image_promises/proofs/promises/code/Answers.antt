use Rattle.image_promises.proofs.CodeBlocks.{code_is_placed}
use Rattle.image_promises.proofs.promises.code.Goals as goal

pub returns : goal.returns
returns c = code_is_placed (record { flash = c.flash.ensures; apart = c.ram.ensures; there = c.places.ensures.there; inside = c.places.ensures.inside }) c.regions_hold_their_blocks.ensures
