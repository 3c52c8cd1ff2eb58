use Rattle.aces_stack.proofs.Within.{bounded_firmwares_are_refined}
use Rattle.aces_stack.proofs.run_laws.bounded_firmwares.Goals as goal

pub returns : goal.returns
returns c = bounded_firmwares_are_refined c.bounded_runs.ensures
