use Rattle.code_effects.proofs.Joined.{runs_join}
use Rattle.code_effects.proofs.Fits.{runs_fit}
use Rattle.code_effects.proofs.laws.runs.Goals as goal

pub returns-clause-join : goal.returns-clause-join
returns-clause-join c = runs_join

pub returns-clause-fit : goal.returns-clause-fit
returns-clause-fit c = runs_fit c.shapes.ensures.of_steps
