use Rattle.example_plan.proofs.Placing.{computes_tails, computes_stack_first}
use Rattle.example_plan.proofs.placements.tails.Goals as goal

pub returns-clause-largest_first : goal.returns-clause-largest_first
returns-clause-largest_first c = computes_tails

pub returns-clause-stack_first : goal.returns-clause-stack_first
returns-clause-stack_first c = computes_stack_first
