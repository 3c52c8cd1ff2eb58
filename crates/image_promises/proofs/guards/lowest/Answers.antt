use Rattle.image_promises.proofs.Plans.{lowest_stacks}
use Rattle.image_promises.proofs.guards.lowest.Goals as goal

pub returns : goal.returns
returns c = lowest_stacks
