use Rattle.machine_model.proofs.Flash.{turn_spares}
use Rattle.machine_model.proofs.laws.flash_stays.Goals as goal

pub returns : goal.returns
returns c = turn_spares
