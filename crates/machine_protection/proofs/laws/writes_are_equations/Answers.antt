use Rattle.machine_protection.proofs.Configured.{each_write_is, lists_are_written}
use Rattle.machine_protection.proofs.laws.writes_are_equations.Goals as goal

pub returns-clause-each : goal.returns-clause-each
returns-clause-each c = each_write_is

pub returns-clause-lists : goal.returns-clause-lists
returns-clause-lists c = lists_are_written
