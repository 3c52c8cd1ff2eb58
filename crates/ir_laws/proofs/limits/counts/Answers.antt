use Rattle.ir_laws.proofs.Counts.{counts_of}
use Rattle.ir_laws.proofs.limits.counts.Goals as goal

pub returns : goal.returns
returns c = counts_of
