use Rattle.ir_laws.proofs.Accesses.{events_are_declared}
use Rattle.ir_laws.proofs.events.Goals as goal

pub returns : goal.returns
returns c = events_are_declared
