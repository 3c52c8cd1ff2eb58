use Rattle.image_promises.proofs.Policy.{stay_in_policy}
use Rattle.image_promises.proofs.needed.runs_stay_in_policy.Goals as goal

pub returns : goal.returns
returns c = stay_in_policy c.runs.ensures
