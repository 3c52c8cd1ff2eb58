use Rattle.image_promises.proofs.RegionsPassed.{regions_pass}
use Rattle.image_promises.proofs.regions.regions.Goals as goal

pub returns : goal.returns
returns c = regions_pass (record { flash = c.flash.ensures; apart = c.ram.ensures; there = c.places.ensures.there; inside = c.places.ensures.inside }) c.windows.ensures
