use Rattle.code_effects.proofs.Numbers.{number_effects}
use Rattle.code_effects.proofs.laws.numbers.Goals as goal

pub returns : goal.returns
returns c = number_effects
