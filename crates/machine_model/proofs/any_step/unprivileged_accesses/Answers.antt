use Rattle.machine_model.proofs.ThreadStep.{accesses_reached, vectors_aligned}
use Rattle.machine_model.proofs.any_step.unprivileged_accesses.Goals as goal

pub returns-clause-reached : goal.returns-clause-reached
returns-clause-reached c = accesses_reached

pub returns-clause-vectors : goal.returns-clause-vectors
returns-clause-vectors c = vectors_aligned
