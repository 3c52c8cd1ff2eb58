use Rattle.image_promises.proofs.Stacks.{are_for_boards}
use Rattle.image_promises.proofs.images.for_boards.Goals as goal

pub returns : goal.returns
returns c = are_for_boards (record { flash = c.flash.ensures; apart = c.ram.ensures; there = c.places.ensures.there; inside = c.places.ensures.inside })
