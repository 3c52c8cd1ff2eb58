use Rattle.example_monitor.proofs.SmallLists.{computes_steps, computes_code}
use Rattle.example_monitor.proofs.steps.small_lists.Goals as goal

pub returns-clause-effects : goal.returns-clause-effects
returns-clause-effects c = computes_steps

pub returns-clause-code : goal.returns-clause-code
returns-clause-code c = computes_code
