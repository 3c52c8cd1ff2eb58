use Rattle.example_plan.proofs.Placing.{computes_sums}
use Rattle.example_plan.proofs.placements.sums.Goals as goal

pub returns : goal.returns
returns c = computes_sums
