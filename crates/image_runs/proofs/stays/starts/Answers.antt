use Rattle.image_runs.proofs.Composed.{all_start}
use Rattle.image_runs.proofs.stays.starts.Goals as goal

pub returns : goal.returns
returns c = all_start c.sound.ensures c.images.ensures c.images_start.ensures
