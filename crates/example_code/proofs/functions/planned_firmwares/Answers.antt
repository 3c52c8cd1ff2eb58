use Rattle.example_code.proofs.Planned.{computes_planned}
use Rattle.example_code.proofs.functions.planned_firmwares.Goals as goal

pub returns : goal.returns
returns c = computes_planned
