use Rattle.monitor_sound.proofs.Composed.{stubs}
use Rattle.monitor_sound.proofs.promises.stubs_stand.Goals as goal

pub returns : goal.returns
returns c = stubs c.sound_images_are_placed.ensures c.instructions.ensures.from_bytes c.page_is_full.ensures.fits c.page_is_full.ensures.stub
