use Rattle.image_runs.proofs.Composed.{keep_the_invariant}
use Rattle.image_runs.proofs.stays.invariant.Goals as goal

pub returns : goal.returns
returns c = keep_the_invariant c.sound.ensures c.images.ensures c.runs_keep_memory.ensures
