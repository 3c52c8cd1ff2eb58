use Rattle.code_effects.proofs.Entry.{entry_effects}
use Rattle.code_effects.proofs.laws.entry.Goals as goal

pub returns : goal.returns
returns c = entry_effects
