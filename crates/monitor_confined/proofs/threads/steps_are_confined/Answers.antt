use Rattle.monitor_confined.proofs.ThreadSteps.{steps_are_confined}
use Rattle.monitor_confined.proofs.threads.steps_are_confined.Goals as goal

pub returns : goal.returns
returns c = steps_are_confined c.unprivileged_accesses.ensures.reached c.threads_reach.ensures
