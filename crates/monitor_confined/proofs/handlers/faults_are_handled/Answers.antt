use Rattle.monitor_confined.proofs.FaultLaw.{faults_are_handled}
use Rattle.monitor_confined.proofs.handlers.faults_are_handled.Goals as goal

pub returns : goal.returns
returns c = faults_are_handled
