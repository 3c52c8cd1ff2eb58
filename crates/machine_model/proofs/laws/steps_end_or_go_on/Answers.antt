use Rattle.machine_model.proofs.Ends.{steps_end_or_go_on}
use Rattle.machine_model.proofs.laws.steps_end_or_go_on.Goals as goal

pub returns : goal.returns
returns c = steps_end_or_go_on
