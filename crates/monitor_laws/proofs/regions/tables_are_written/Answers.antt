use Rattle.monitor_laws.proofs.Tables.{stack_is_closed_above_top}
use Rattle.monitor_laws.proofs.Effects.{tables_are_written}
use Rattle.monitor_laws.proofs.regions.tables_are_written.Goals as goal

pub returns-clause-written : goal.returns-clause-written
returns-clause-written c = tables_are_written

pub returns-clause-closed : goal.returns-clause-closed
returns-clause-closed c = stack_is_closed_above_top
