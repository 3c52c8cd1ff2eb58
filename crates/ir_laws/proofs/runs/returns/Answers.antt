use Rattle.ir_laws.proofs.Facts.{returns_agree}
use Rattle.ir_laws.proofs.runs.returns.Goals as goal

pub returns : goal.returns
returns c = returns_agree
