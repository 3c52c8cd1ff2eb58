use Rattle.example_plan.proofs.Placing.{computes_plan, computes_other_policies, computes_closed_plan}
use Rattle.example_plan.proofs.placements.control_loop.Goals as goal

pub returns-clause-open : goal.returns-clause-open
returns-clause-open c = computes_plan

pub returns-clause-policies : goal.returns-clause-policies
returns-clause-policies c = computes_other_policies

pub returns-clause-closed : goal.returns-clause-closed
returns-clause-closed c = computes_closed_plan
