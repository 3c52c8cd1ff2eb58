use Rattle.monitor_sound.proofs.Composed.{laws_confine}
use Rattle.monitor_sound.proofs.promises.sound_laws_confine.Goals as goal

pub returns : goal.returns
returns c = laws_confine c.sound_images_are_placed.ensures c.laws_confine.ensures
