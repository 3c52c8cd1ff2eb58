use Rattle.need_laws.proofs.StepsStay.{running_frame_stays}
use Rattle.need_laws.proofs.accesses.Goals as goal

pub returns : goal.returns
returns c = running_frame_stays c.accesses.ensures
