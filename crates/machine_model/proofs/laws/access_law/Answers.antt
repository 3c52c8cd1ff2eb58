use Rattle.machine_model.proofs.AccessLaw.{turn_free}
use Rattle.machine_model.proofs.laws.access_law.Goals as goal

pub returns : goal.returns
returns c = turn_free
