use Rattle.machine_protection.proofs.Writes.{writes_keep_the_count}
use Rattle.machine_protection.proofs.laws.writes_keep_the_count.Goals as goal

pub returns : goal.returns
returns c = writes_keep_the_count
