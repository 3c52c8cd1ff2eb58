use Rattle.example_plan.proofs.SelfCalls.{has_self_call}
use Rattle.example_plan.proofs.analysis.self_call.Goals as goal

pub returns : goal.returns
returns c = has_self_call
