use Rattle.machine_protection.proofs.Writes.{registers_read_back}
use Rattle.machine_protection.proofs.laws.registers_read_back.Goals as goal

pub returns : goal.returns
returns c = registers_read_back
