use Rattle.example_machine.proofs.Refused.{computes_refused}
use Rattle.example_machine.proofs.firmwares.refusals.Goals as goal

pub returns : goal.returns
returns c = computes_refused
