use Rattle.code_lower_laws.proofs.Compartments.{compartments_reach}
use Rattle.code_lower_laws.proofs.laws.compartments.Goals as goal

pub returns : goal.returns
returns c = compartments_reach c.sizes.ensures.hold c.sizes.ensures.even c.functions.ensures
