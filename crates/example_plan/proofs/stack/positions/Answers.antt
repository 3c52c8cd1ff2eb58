use Rattle.example_plan.proofs.StackPositions.{computes_positions}
use Rattle.example_plan.proofs.stack.positions.Goals as goal

pub returns : goal.returns
returns c = computes_positions
