use Rattle.plan.proofs.OneAnswer.{plans_are_one, plans_are_not_refused, planning_refusals_are_one}
use Rattle.plan.proofs.laws.one_answer.Goals as goal

pub returns-clause-one : goal.returns-clause-one
returns-clause-one c = plans_are_one c.final_graph_is_one.ensures

pub returns-clause-planned : goal.returns-clause-planned
returns-clause-planned c = plans_are_not_refused c.final_graph_is_one.ensures

pub returns-clause-refused : goal.returns-clause-refused
returns-clause-refused c = planning_refusals_are_one c.final_graph_is_one.ensures
