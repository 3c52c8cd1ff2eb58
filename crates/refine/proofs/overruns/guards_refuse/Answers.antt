use Rattle.refine.proofs.Guarding.{guards_refuse}
use Rattle.refine.proofs.overruns.guards_refuse.Goals as goal

pub returns : goal.returns
returns c = guards_refuse c.threads_reach.ensures
