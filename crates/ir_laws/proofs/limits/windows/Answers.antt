use Rattle.ir_laws.proofs.Windows.{has_windows}
use Rattle.ir_laws.proofs.limits.windows.Goals as goal

pub returns : goal.returns
returns c = has_windows
