use Rattle.monitor_confined.proofs.ThreadSteps.{steps_lead}
use Rattle.monitor_confined.proofs.threads.steps_lead.Goals as goal

pub returns : goal.returns
returns c = steps_lead c.unprivileged_steps.ensures c.shapes.ensures.of_steps c.threads_reach.ensures
