use Rattle.image_promises.proofs.Composed.{refine_or_stop}
use Rattle.image_promises.proofs.images.refined_or_stopped_images.Goals as goal

pub returns : goal.returns
returns c =
    refine_or_stop
    c.sound.ensures c.images.ensures c.linked_images.ensures c.kind.ensures c.ranges-2.ensures c.sound_images_serve_simulation.ensures c.refinement_or_stop.ensures
