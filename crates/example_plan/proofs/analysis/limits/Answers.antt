use Rattle.example_plan.proofs.ControlLoop.{computes_limits}
use Rattle.example_plan.proofs.analysis.limits.Goals as goal

pub returns : goal.returns
returns c = computes_limits
