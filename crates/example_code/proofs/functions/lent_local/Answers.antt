use Rattle.example_code.proofs.Lent.{computes_lent}
use Rattle.example_code.proofs.functions.lent_local.Goals as goal

pub returns : goal.returns
returns c = computes_lent
