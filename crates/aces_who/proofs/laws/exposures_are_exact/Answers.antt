use Rattle.aces_who.proofs.Exact.{add_up, are_unneeded}
use Rattle.aces_who.proofs.laws.exposures_are_exact.Goals as goal

pub returns : goal.returns
returns c s k = (add_up s k, are_unneeded s k)
