use Rattle.ir_laws.proofs.Layouts.{cells_of_types, cells_of_firmwares}
use Rattle.ir_laws.proofs.cells.Goals as goal

pub returns-clause-types : goal.returns-clause-types
returns-clause-types c = cells_of_types

pub returns-clause-firmwares : goal.returns-clause-firmwares
returns-clause-firmwares c = cells_of_firmwares
