use Rattle.plan_firmwares.proofs.Excluding.{one_refusal}
use Rattle.plan_firmwares.proofs.laws.refusals_are_one.Goals as goal

pub returns : goal.returns
returns c = one_refusal c.needs_are_one.ensures c.one_answer.ensures.refused
