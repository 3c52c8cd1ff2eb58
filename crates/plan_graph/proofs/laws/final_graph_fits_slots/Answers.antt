use Rattle.plan_graph.proofs.Few.{few_merged}
use Rattle.plan_graph.proofs.laws.final_graph_fits_slots.Goals as goal

pub returns : goal.returns
returns c = λ p slots g f two m k l. few_merged p slots g f two m k l
