use Rattle.code_effects.proofs.Returns.{return_effects}
use Rattle.code_effects.proofs.laws.returns.Goals as goal

pub returns : goal.returns
returns c = return_effects
