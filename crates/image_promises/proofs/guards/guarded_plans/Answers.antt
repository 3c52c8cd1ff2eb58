use Rattle.image_promises.proofs.Plans.{guarded_plans}
use Rattle.image_promises.proofs.guards.guarded_plans.Goals as goal

pub returns : goal.returns
returns c = guarded_plans c.permissions.ensures c.images.ensures c.memory.ensures
