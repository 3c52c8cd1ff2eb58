use Rattle.machine_model.proofs.Asked.{taken_done, standing_done}
use Rattle.machine_model.proofs.any_step.performed_accesses.Goals as goal

pub returns-clause-of_taken : goal.returns-clause-of_taken
returns-clause-of_taken c = taken_done

pub returns-clause-of_standing : goal.returns-clause-of_standing
returns-clause-of_standing c = standing_done
