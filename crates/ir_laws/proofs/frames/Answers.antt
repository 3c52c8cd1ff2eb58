use Rattle.ir_laws.proofs.Order.{frames_stay_ordered}
use Rattle.ir_laws.proofs.frames.Goals as goal

pub returns : goal.returns
returns c = frames_stay_ordered
