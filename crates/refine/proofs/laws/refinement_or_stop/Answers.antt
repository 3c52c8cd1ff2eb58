use Rattle.refine.proofs.Images.{images_refine_or_stop}
use Rattle.refine.proofs.laws.refinement_or_stop.Goals as goal

pub returns : goal.returns
returns c = images_refine_or_stop c.code.ensures c.sources.ensures
