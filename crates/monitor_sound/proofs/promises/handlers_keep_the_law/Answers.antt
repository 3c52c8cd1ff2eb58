use Rattle.monitor_sound.proofs.Composed.{handlers_keep}
use Rattle.monitor_sound.proofs.promises.handlers_keep_the_law.Goals as goal

pub returns : goal.returns
returns c = handlers_keep c.svc_keeps_the_law.ensures c.faults_keep_the_law.ensures
