use Rattle.example_plan.proofs.ControlLoop.{computes_policies}
use Rattle.example_plan.proofs.analysis.policies.Goals as goal

pub returns : goal.returns
returns c = computes_policies
