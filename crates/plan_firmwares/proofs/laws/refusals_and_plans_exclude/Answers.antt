use Rattle.plan_firmwares.proofs.Excluding.{exclude}
use Rattle.plan_firmwares.proofs.laws.refusals_and_plans_exclude.Goals as goal

pub returns : goal.returns
returns c = exclude c.needs_are_one.ensures c.one_answer.ensures.planned
