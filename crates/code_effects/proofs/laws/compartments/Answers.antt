use Rattle.code_effects.proofs.Compartments.{compartments_stand}
use Rattle.code_effects.proofs.laws.compartments.Goals as goal

pub returns : goal.returns
returns c = compartments_stand c.sizes.ensures.hold c.sizes.ensures.even
