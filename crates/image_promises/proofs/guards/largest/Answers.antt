use Rattle.image_promises.proofs.Plans.{largest_stacks}
use Rattle.image_promises.proofs.guards.largest.Goals as goal

pub returns : goal.returns
returns c = largest_stacks c.stack.ensures
