use Rattle.machine_protection.proofs.Protection.{the_highest_decides}
use Rattle.machine_protection.proofs.laws.the_highest_decides.Goals as goal

pub returns : goal.returns
returns c = the_highest_decides
