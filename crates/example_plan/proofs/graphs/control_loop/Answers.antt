use Rattle.example_plan.proofs.Joining.{computes_graph, computes_closed_graph}
use Rattle.example_plan.proofs.graphs.control_loop.Goals as goal

pub returns-clause-open : goal.returns-clause-open
returns-clause-open c = computes_graph

pub returns-clause-closed : goal.returns-clause-closed
returns-clause-closed c = computes_closed_graph
