use Rattle.image_runs.proofs.Kept.{of_sound_images}
use Rattle.image_runs.proofs.replaced_code.sound_images_keep_promises.Goals as goal

pub returns : goal.returns
returns c = of_sound_images c.stay_sound.ensures c.sound_images_are_confined.ensures c.sound_runs.ensures c.runs_keep_memory.ensures
