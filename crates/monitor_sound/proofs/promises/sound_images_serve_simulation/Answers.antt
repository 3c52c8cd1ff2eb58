use Rattle.monitor_sound.proofs.Composed.{serve_simulation}
use Rattle.monitor_sound.proofs.promises.sound_images_serve_simulation.Goals as goal

pub returns : goal.returns
returns c = serve_simulation c.handlers_keep_the_law.ensures c.images_start.ensures c.sound_laws_serve_simulation.ensures
