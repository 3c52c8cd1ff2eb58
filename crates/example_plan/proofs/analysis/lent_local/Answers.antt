use Rattle.example_plan.proofs.LeastSets.{has_least_sets}
use Rattle.example_plan.proofs.LentNeeds.{has_needs}
use Rattle.example_plan.proofs.Loans.{computes_loans}
use Rattle.example_plan.proofs.analysis.lent_local.Goals as goal

pub returns-clause-sets : goal.returns-clause-sets
returns-clause-sets c = has_least_sets

pub returns-clause-needs : goal.returns-clause-needs
returns-clause-needs c = has_needs

pub returns-clause-loans : goal.returns-clause-loans
returns-clause-loans c = computes_loans
