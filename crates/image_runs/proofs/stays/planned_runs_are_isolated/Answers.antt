use Rattle.image_runs.proofs.Composed.{are_isolated}
use Rattle.image_runs.proofs.stays.planned_runs_are_isolated.Goals as goal

pub returns : goal.returns
returns c = are_isolated c.sound.ensures c.images.ensures c.for_boards.ensures c.runs_keep_memory.ensures c.kept_runs_are_isolated.ensures
