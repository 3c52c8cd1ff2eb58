use Rattle.monitor_laws.proofs.SoundImages.{images_start}
use Rattle.monitor_laws.proofs.images.images_start.Goals as goal

pub returns : goal.returns
returns c = images_start c.ready_images_start.ensures
