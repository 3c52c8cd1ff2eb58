use Rattle.image_promises.proofs.Loans.{kinds_agree}
use Rattle.image_promises.proofs.promises.kind.Goals as goal

pub returns : goal.returns
returns c = kinds_agree
