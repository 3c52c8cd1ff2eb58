use Rattle.monitor_program.specs.TheCode.{monitor_code}
use Rattle.monitor_sound.proofs.Composed.{are_confined}
use Rattle.monitor_sound.proofs.promises.sound_images_are_confined.Goals as goal

pub returns : goal.returns
returns c = are_confined c.sound_images_are_placed.ensures c.images_start.ensures c.handlers_confine.ensures.images (c.sound_laws_confine.ensures monitor_code) c.handlers_keep_the_law.ensures
