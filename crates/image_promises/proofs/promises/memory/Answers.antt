use Rattle.image_promises.proofs.Memory.{memory_is_laid}
use Rattle.image_promises.proofs.promises.memory.Goals as goal

pub returns : goal.returns
returns c = memory_is_laid (record { flash = c.flash.ensures; apart = c.ram.ensures; there = c.places.ensures.there; inside = c.places.ensures.inside })
