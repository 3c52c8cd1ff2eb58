use Rattle.aces_stack.proofs.Within.{bounded_runs_stay_within}
use Rattle.aces_stack.proofs.run_laws.bounded_runs.Goals as goal

pub returns : goal.returns
returns c = bounded_runs_stay_within c.values.ensures.sets
