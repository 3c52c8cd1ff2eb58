use Rattle.machine_model.proofs.Locality.{reads_are_listed}
use Rattle.machine_model.proofs.laws.listed_reads.Goals as goal

pub returns : goal.returns
returns c = reads_are_listed
