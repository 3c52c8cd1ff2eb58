use Rattle.refine.proofs.NeverWrong.{never_wrong}
use Rattle.refine.proofs.never_wrong.never_wrong.Goals as goal

pub returns : goal.returns
returns c = never_wrong
