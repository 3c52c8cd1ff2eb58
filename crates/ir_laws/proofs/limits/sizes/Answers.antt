use Rattle.ir_laws.proofs.Sizes.{small_objects}
use Rattle.ir_laws.proofs.limits.sizes.Goals as goal

pub returns : goal.returns
returns c = small_objects
