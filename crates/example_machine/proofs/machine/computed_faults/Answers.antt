use Rattle.example_machine.proofs.Examples.{computes_protection, computes_exceptions, computes_windows, computes_stops, computes_system, computes_tests, computes_run}
use Rattle.example_machine.proofs.machine.computed_faults.Goals as goal

pub returns-clause-of_protection : goal.returns-clause-of_protection
returns-clause-of_protection c = computes_protection

pub returns-clause-of_exceptions : goal.returns-clause-of_exceptions
returns-clause-of_exceptions c = computes_exceptions

pub returns-clause-of_windows : goal.returns-clause-of_windows
returns-clause-of_windows c = computes_windows

pub returns-clause-of_stops : goal.returns-clause-of_stops
returns-clause-of_stops c = computes_stops

pub returns-clause-of_system : goal.returns-clause-of_system
returns-clause-of_system c = computes_system

pub returns-clause-of_tests : goal.returns-clause-of_tests
returns-clause-of_tests c = computes_tests

pub returns-clause-of_run : goal.returns-clause-of_run
returns-clause-of_run c = computes_run
