use Rattle.machine_protection.proofs.RegionWords.{regions_give_their_rights}
use Rattle.machine_protection.proofs.laws.regions_give_their_rights.Goals as goal

pub returns : goal.returns
returns c = regions_give_their_rights
