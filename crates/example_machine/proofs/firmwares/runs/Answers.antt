use Rattle.example_machine.proofs.Control.{computes_control}
use Rattle.example_machine.proofs.Lending.{computes_lending}
use Rattle.example_machine.proofs.Calls.{computes_calls}
use Rattle.example_machine.proofs.Table.{computes_table}
use Rattle.example_machine.proofs.Small.{computes_small}
use Rattle.example_machine.proofs.firmwares.runs.Goals as goal

pub returns-clause-of_control : goal.returns-clause-of_control
returns-clause-of_control c = computes_control

pub returns-clause-of_lending : goal.returns-clause-of_lending
returns-clause-of_lending c = computes_lending

pub returns-clause-of_calls : goal.returns-clause-of_calls
returns-clause-of_calls c = computes_calls

pub returns-clause-of_table : goal.returns-clause-of_table
returns-clause-of_table c = computes_table

pub returns-clause-of_small : goal.returns-clause-of_small
returns-clause-of_small c = computes_small
