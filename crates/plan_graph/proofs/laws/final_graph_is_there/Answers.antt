use Rattle.plan_model.specs.InitialGraph.{initial_graph}
use Rattle.plan_graph.proofs.Fitting.{final_there, initial_fits}
use Rattle.plan_graph.proofs.laws.final_graph_is_there.Goals as goal

pub returns : goal.returns
returns c = λ p n g slots h. final_there p slots (initial_graph p n g) (initial_fits p n g h)
