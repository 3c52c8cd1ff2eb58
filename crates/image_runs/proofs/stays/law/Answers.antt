use Rattle.image_runs.proofs.Composed.{keep_the_law}
use Rattle.image_runs.proofs.stays.law.Goals as goal

pub returns : goal.returns
returns c = keep_the_law c.sound.ensures c.images.ensures c.handlers_keep_the_law.ensures
