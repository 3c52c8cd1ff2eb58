use Rattle.plan_graph.proofs.Ending.{one_final}
use Rattle.plan_graph.proofs.laws.final_graph_is_one.Goals as goal

pub returns : goal.returns
returns c = λ p slots g f h m n. one_final p slots g f h m n
