use Rattle.code_effects.proofs.Functions.{functions_stand}
use Rattle.code_effects.proofs.laws.functions.Goals as goal

pub returns : goal.returns
returns c = functions_stand
