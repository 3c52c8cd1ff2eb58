use Rattle.example_image.proofs.Computed.{computes_lent}
use Rattle.example_image.proofs.tables.lent_local.Goals as goal

pub returns : goal.returns
returns c = computes_lent
