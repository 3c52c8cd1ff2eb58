use Rattle.plan_compartments.proofs.OneAnswer.{needs_are_one}
use Rattle.plan_compartments.proofs.laws.needs_are_one.Goals as goal

pub returns : goal.returns
returns c = needs_are_one
