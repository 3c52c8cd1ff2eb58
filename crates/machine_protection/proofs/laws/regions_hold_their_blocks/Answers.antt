use Rattle.machine_protection.proofs.RegionWords.{regions_hold_their_blocks}
use Rattle.machine_protection.proofs.laws.regions_hold_their_blocks.Goals as goal

pub returns : goal.returns
returns c = regions_hold_their_blocks
