use Rattle.example_code.proofs.Shortest.{computes_shortest}
use Rattle.example_code.proofs.functions.shortest.Goals as goal

pub returns : goal.returns
returns c = computes_shortest
