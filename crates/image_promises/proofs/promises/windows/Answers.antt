use Rattle.image_promises.proofs.Windows.{windows_are_promised}
use Rattle.image_promises.proofs.promises.windows.Goals as goal

pub returns : goal.returns
returns c =
    windows_are_promised (record { flash = c.flash.ensures; apart = c.ram.ensures; there = c.places.ensures.there; inside = c.places.ensures.inside })
    (record { held = c.regions_hold_their_blocks.ensures; given = c.regions_give_their_rights.ensures; apart = c.windows.ensures; few = c.final_graph_fits_slots.ensures })
