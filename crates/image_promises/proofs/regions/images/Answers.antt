use Rattle.image_promises.proofs.Rules.{images_obey_rules}
use Rattle.image_promises.proofs.regions.images.Goals as goal

pub returns : goal.returns
returns c = images_obey_rules (record { flash = c.flash.ensures; apart = c.ram.ensures; there = c.places.ensures.there; inside = c.places.ensures.inside }) c.windows.ensures
