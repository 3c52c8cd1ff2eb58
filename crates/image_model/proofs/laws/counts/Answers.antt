use Rattle.image_model.proofs.Counts.{counts_agree}
use Rattle.image_model.proofs.laws.counts.Goals as goal

pub returns : goal.returns
returns c = counts_agree
