use Rattle.aces_stack.proofs.Whole.{bounded_images_refine_whole, bounds_are_kept}
use Rattle.aces_stack.proofs.image_laws.bounded_images.Goals as goal

pub returns-clause-images : goal.returns-clause-images
returns-clause-images c = bounded_images_refine_whole c.bounded_firmwares.ensures

pub returns-clause-bounds : goal.returns-clause-bounds
returns-clause-bounds c = bounds_are_kept c.needs_are_one.ensures c.bounded_runs.ensures c.bounded_firmwares.ensures
