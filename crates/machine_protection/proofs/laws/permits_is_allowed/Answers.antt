use Rattle.machine_protection.proofs.Protection.{permits_is_allowed}
use Rattle.machine_protection.proofs.laws.permits_is_allowed.Goals as goal

pub returns : goal.returns
returns c = permits_is_allowed
