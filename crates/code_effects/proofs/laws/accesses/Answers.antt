use Rattle.code_effects.proofs.Accesses.{load_effects, store_effects, accesses_have_widths}
use Rattle.code_effects.proofs.laws.accesses.Goals as goal

pub returns-clause-loads : goal.returns-clause-loads
returns-clause-loads c = load_effects

pub returns-clause-stores : goal.returns-clause-stores
returns-clause-stores c = store_effects

pub returns-clause-widths : goal.returns-clause-widths
returns-clause-widths c = accesses_have_widths
