use Rattle.image_promises.proofs.Composed.{refine_firmwares}
use Rattle.image_promises.proofs.images.refined_images.Goals as goal

pub returns : goal.returns
returns c =
    refine_firmwares (record { flash = c.flash.ensures; apart = c.ram.ensures; there = c.places.ensures.there; inside = c.places.ensures.inside })
    c.sound.ensures c.images.ensures c.linked_images.ensures c.kind.ensures c.ranges-2.ensures c.sound_images_serve_simulation.ensures c.refinement.ensures
