use Rattle.image_promises.proofs.Composed.{are_confined}
use Rattle.image_promises.proofs.images.confined_images.Goals as goal

pub returns : goal.returns
returns c = are_confined c.sound.ensures c.images.ensures c.sound_images_are_confined.ensures
