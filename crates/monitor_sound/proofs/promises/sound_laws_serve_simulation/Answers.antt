use Rattle.monitor_sound.proofs.Composed.{laws_serve}
use Rattle.monitor_sound.proofs.promises.sound_laws_serve_simulation.Goals as goal

pub returns : goal.returns
returns c = laws_serve c.sound_images_are_placed.ensures c.instructions.ensures.from_bytes c.page_is_full.ensures.fits c.page_is_full.ensures.stub c.laws_serve_simulation.ensures
