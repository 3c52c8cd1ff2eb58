use Rattle.machine_model.proofs.AnyStep.{any_step}
use Rattle.machine_model.proofs.any_step.listed_stores.Goals as goal

pub returns : goal.returns
returns c = any_step
