use Rattle.image_promises.proofs.NeededMasks.{planned_masks_are_needed}
use Rattle.image_promises.proofs.needed.masks_are_needed.Goals as goal

pub returns : goal.returns
returns c = planned_masks_are_needed
