use Rattle.example_machine.proofs.Examples.{computes_data, computes_branches, computes_transfers}
use Rattle.example_machine.proofs.machine.computed_steps.Goals as goal

pub returns-clause-of_data : goal.returns-clause-of_data
returns-clause-of_data c = computes_data

pub returns-clause-of_branches : goal.returns-clause-of_branches
returns-clause-of_branches c = computes_branches

pub returns-clause-of_transfers : goal.returns-clause-of_transfers
returns-clause-of_transfers c = computes_transfers
