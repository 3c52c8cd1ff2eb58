use Rattle.code_model.proofs.FunctionSizes.{sizes_hold}
use Rattle.code_model.proofs.Even.{sizes_are_even}
use Rattle.code_model.proofs.laws.sizes.Goals as goal

pub returns-clause-hold : goal.returns-clause-hold
returns-clause-hold c = sizes_hold

pub returns-clause-even : goal.returns-clause-even
returns-clause-even c = sizes_are_even
