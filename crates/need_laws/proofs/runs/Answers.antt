use Rattle.need_laws.proofs.StepsStay.{no_step_leaves_needs}
use Rattle.need_laws.proofs.runs.Goals as goal

pub returns : goal.returns
returns c = no_step_leaves_needs c.values.ensures.sets
