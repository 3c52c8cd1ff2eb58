use Rattle.example_machine.proofs.StoredPointer.{meets_laws}
use Rattle.example_machine.proofs.firmwares.stored_pointer.Goals as goal

pub returns : goal.returns
returns c = meets_laws
