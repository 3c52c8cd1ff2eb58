use Rattle.ir_laws.proofs.Facts.{accesses_are_in_sets}
use Rattle.ir_laws.proofs.runs.accesses.Goals as goal

pub returns : goal.returns
returns c = accesses_are_in_sets
