use Rattle.machine_model.proofs.Runs.{after-add, events_after-add, after_ended, events_after_ended}
use Rattle.machine_model.proofs.laws.runs_from_start.Goals as goal

pub returns-clause-state : goal.returns-clause-state
returns-clause-state c = after-add

pub returns-clause-events : goal.returns-clause-events
returns-clause-events c = events_after-add

pub returns-clause-state_after_end : goal.returns-clause-state_after_end
returns-clause-state_after_end c = after_ended

pub returns-clause-events_after_end : goal.returns-clause-events_after_end
returns-clause-events_after_end c = events_after_ended
