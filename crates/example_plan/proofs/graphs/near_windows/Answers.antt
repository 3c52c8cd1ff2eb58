use Rattle.example_plan.proofs.Joining.{computes_covers}
use Rattle.example_plan.proofs.graphs.near_windows.Goals as goal

pub returns : goal.returns
returns c = computes_covers
