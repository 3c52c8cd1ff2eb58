use Rattle.monitor_sound.proofs.Composed.{accesses_have_their_effect}
use Rattle.monitor_sound.proofs.promises.sound_accesses_have_their_effect.Goals as goal

pub returns : goal.returns
returns c = accesses_have_their_effect c.sound_images_are_placed.ensures c.instructions.ensures.from_bytes c.page_is_full.ensures.fits c.page_is_full.ensures.stub c.accesses_have_their_effect.ensures c.handlers_keep_the_law.ensures
