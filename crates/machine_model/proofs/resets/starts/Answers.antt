use Rattle.machine_model.proofs.Starts.{starts_are_resets}
use Rattle.machine_model.proofs.resets.starts.Goals as goal

pub returns : goal.returns
returns c = starts_are_resets c.shapes.ensures.of_runs
