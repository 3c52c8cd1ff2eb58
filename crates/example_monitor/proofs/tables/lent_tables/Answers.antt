use Rattle.example_monitor.proofs.LentTables.{computes_tables}
use Rattle.example_monitor.proofs.tables.lent_tables.Goals as goal

pub returns : goal.returns
returns c = computes_tables
