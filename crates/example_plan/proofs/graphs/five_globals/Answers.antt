use Rattle.example_plan.proofs.Joining.{computes_joins}
use Rattle.example_plan.proofs.graphs.five_globals.Goals as goal

pub returns : goal.returns
returns c = computes_joins
