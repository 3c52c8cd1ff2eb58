use Rattle.ir_laws.proofs.Firmware.{typed_over_numbers}
use Rattle.ir_laws.proofs.typing.places.Goals as goal

pub returns : goal.returns
returns c = typed_over_numbers
