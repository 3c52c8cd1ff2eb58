use Rattle.refine.proofs.Images.{images_refine}
use Rattle.refine.proofs.laws.refinement.Goals as goal

pub returns : goal.returns
returns c = images_refine c.code.ensures c.sources.ensures
