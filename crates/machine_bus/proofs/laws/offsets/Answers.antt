use Rattle.machine_bus.proofs.Offsets.{ram_offsets, flash_offsets, flash_alone}
use Rattle.machine_bus.proofs.laws.offsets.Goals as goal

pub returns-clause-ram : goal.returns-clause-ram
returns-clause-ram c = ram_offsets

pub returns-clause-flash : goal.returns-clause-flash
returns-clause-flash c = flash_offsets

pub returns-clause-alone : goal.returns-clause-alone
returns-clause-alone c = flash_alone
