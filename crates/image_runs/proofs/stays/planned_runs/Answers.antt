use Rattle.image_runs.proofs.Composed.{tell_who_runs}
use Rattle.image_runs.proofs.stays.planned_runs.Goals as goal

pub returns : goal.returns
returns c = tell_who_runs c.sound.ensures c.images.ensures c.sound_runs.ensures
