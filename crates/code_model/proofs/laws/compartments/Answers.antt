use Rattle.code_model.proofs.Compartments.{compartments_hold}
use Rattle.code_model.proofs.laws.compartments.Goals as goal

pub returns : goal.returns
returns c = compartments_hold
