use Rattle.example_monitor.proofs.Lengths.{computes_lengths}
use Rattle.example_monitor.proofs.page.lengths.Goals as goal

pub returns : goal.returns
returns c = computes_lengths
