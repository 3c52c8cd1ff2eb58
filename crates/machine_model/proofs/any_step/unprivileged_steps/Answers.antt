use Rattle.machine_model.proofs.ThreadStep.{thread_step}
use Rattle.machine_model.proofs.any_step.unprivileged_steps.Goals as goal

pub returns : goal.returns
returns c = thread_step
