use Rattle.example_monitor.proofs.Handled.{computes_loans}
use Rattle.example_monitor.proofs.handlers.loans.Goals as goal

pub returns : goal.returns
returns c = computes_loans
