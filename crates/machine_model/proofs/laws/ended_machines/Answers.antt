use Rattle.machine_model.proofs.Runs.{turn_ended, run_ended, events_ended}
use Rattle.machine_model.proofs.laws.ended_machines.Goals as goal

pub returns-clause-step : goal.returns-clause-step
returns-clause-step c = turn_ended

pub returns-clause-run : goal.returns-clause-run
returns-clause-run c = run_ended

pub returns-clause-events : goal.returns-clause-events
returns-clause-events c = events_ended
