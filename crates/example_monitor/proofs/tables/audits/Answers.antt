use Rattle.example_monitor.proofs.Audits.{computes_audits}
use Rattle.example_monitor.proofs.tables.audits.Goals as goal

pub returns : goal.returns
returns c = computes_audits
