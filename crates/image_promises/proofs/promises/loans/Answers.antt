use Rattle.image_promises.proofs.Loans.{loans_are_kept}
use Rattle.image_promises.proofs.promises.loans.Goals as goal

pub returns : goal.returns
returns c = loans_are_kept
