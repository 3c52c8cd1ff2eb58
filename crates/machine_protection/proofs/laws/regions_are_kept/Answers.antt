use Rattle.machine_protection.proofs.Writes.{regions_are_kept}
use Rattle.machine_protection.proofs.laws.regions_are_kept.Goals as goal

pub returns : goal.returns
returns c = regions_are_kept
