use Rattle.code_effects.proofs.Addresses.{address_effects, offsets_agree}
use Rattle.code_effects.proofs.laws.addresses.Goals as goal

pub returns-clause-effects : goal.returns-clause-effects
returns-clause-effects c = address_effects

pub returns-clause-agree : goal.returns-clause-agree
returns-clause-agree c = offsets_agree
