use Rattle.monitor_laws.proofs.SoundImages.{sound_images_are_placed}
use Rattle.monitor_laws.proofs.images.sound_images_are_placed.Goals as goal

pub returns : goal.returns
returns c = sound_images_are_placed
