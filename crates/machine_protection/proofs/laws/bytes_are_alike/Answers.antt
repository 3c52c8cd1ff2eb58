use Rattle.machine_protection.proofs.Alike.{bytes_are_alike}
use Rattle.machine_protection.proofs.laws.bytes_are_alike.Goals as goal

pub returns : goal.returns
returns c = bytes_are_alike
