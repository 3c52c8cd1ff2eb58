use Rattle.machine_model.proofs.ShapeSteps.{steps_keep_shape, runs_keep_shape}
use Rattle.machine_model.proofs.running.shapes.Goals as goal

pub returns-clause-of_steps : goal.returns-clause-of_steps
returns-clause-of_steps c = steps_keep_shape

pub returns-clause-of_runs : goal.returns-clause-of_runs
returns-clause-of_runs c = runs_keep_shape
