use Rattle.ir_laws.proofs.Declared.{has_layouts}
use Rattle.ir_laws.proofs.limits.layouts.Goals as goal

pub returns : goal.returns
returns c = has_layouts
