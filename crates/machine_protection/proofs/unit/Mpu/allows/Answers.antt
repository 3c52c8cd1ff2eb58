use Rattle.std.proofs.Common.{not}
use Rattle.machine_protection.proofs.Protection.{permits_is_allowed}
use Rattle.machine_protection.proofs.Alike.{permits_bytes}
use Rattle.machine_protection.proofs.unit.Mpu.allows.Goals as goal

pub returns-clause-allowed : goal.returns-clause-allowed
returns-clause-allowed c = rw c.permits.ensures (permits_is_allowed c.args.self.now (not c.args.privileged) c.args.kind c.args.addr)

pub returns-clause-bytes : goal.returns-clause-bytes
returns-clause-bytes c = rw c.permits.ensures (permits_bytes c.args.self.now (not c.args.privileged) c.args.kind c.args.width c.args.addr c.requires.width c.requires.aligned)
