use Rattle.machine_protection.proofs.Configured.{eighths_are_closed, open_eighths_are_held}
use Rattle.machine_protection.proofs.laws.open_eighths_are_held.Goals as goal

pub returns-clause-closed : goal.returns-clause-closed
returns-clause-closed c = eighths_are_closed

pub returns-clause-held : goal.returns-clause-held
returns-clause-held c = open_eighths_are_held
