use Rattle.code_effects.proofs.Calls.{call_effects, crossing_effects, returned_effects}
use Rattle.code_effects.proofs.laws.calls.Goals as goal

pub returns-clause-within : goal.returns-clause-within
returns-clause-within c = call_effects

pub returns-clause-across : goal.returns-clause-across
returns-clause-across c = crossing_effects

pub returns-clause-returned : goal.returns-clause-returned
returns-clause-returned c = returned_effects
