use Rattle.image_promises.proofs.Plans.{behind_monitors}
use Rattle.image_promises.proofs.guards.behind.Goals as goal

pub returns : goal.returns
returns c = behind_monitors c.ram.ensures
