use Rattle.image_runs.proofs.Kept.{of_planned_images}
use Rattle.image_runs.proofs.replaced_code.planned_images_keep_promises.Goals as goal

pub returns : goal.returns
returns c = of_planned_images c.sound.ensures c.images.ensures c.sound_images_keep_promises.ensures
