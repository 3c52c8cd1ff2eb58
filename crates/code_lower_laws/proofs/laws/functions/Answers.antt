use Rattle.code_lower_laws.proofs.Functions.{functions_reach}
use Rattle.code_lower_laws.proofs.laws.functions.Goals as goal

pub returns : goal.returns
returns c = functions_reach c.sizes.ensures.hold
