use Rattle.monitor_laws.proofs.OtherUnits.{other_units_halt}
use Rattle.monitor_laws.proofs.start_up.other_units_halt.Goals as goal

pub returns : goal.returns
returns c = other_units_halt
