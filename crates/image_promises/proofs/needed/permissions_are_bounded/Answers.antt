use Rattle.image_promises.proofs.NeededObjects.{permissions_are_bounded}
use Rattle.image_promises.proofs.needed.permissions_are_bounded.Goals as goal

pub returns : goal.returns
returns c = permissions_are_bounded c.windows.ensures
