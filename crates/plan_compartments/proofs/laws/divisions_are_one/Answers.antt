use Rattle.plan_compartments.proofs.OneAnswer.{divisions_are_one}
use Rattle.plan_compartments.proofs.laws.divisions_are_one.Goals as goal

pub returns : goal.returns
returns c = divisions_are_one
