use Rattle.monitor_confined.proofs.SvcLaw.{laws_confine}
use Rattle.monitor_confined.proofs.handlers.laws_confine.Goals as goal

pub returns : goal.returns
returns c = laws_confine c.faults_are_handled.ensures c.calls_are_handled.ensures
