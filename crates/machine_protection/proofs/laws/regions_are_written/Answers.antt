use Rattle.machine_protection.proofs.Writes.{regions_are_written}
use Rattle.machine_protection.proofs.laws.regions_are_written.Goals as goal

pub returns : goal.returns
returns c = regions_are_written
