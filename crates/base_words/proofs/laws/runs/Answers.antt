use Rattle.base_words.proofs.Runs.{run-add, events-add, run_still, events_still}
use Rattle.base_words.proofs.laws.runs.Goals as goal

pub returns-clause-sum : goal.returns-clause-sum
returns-clause-sum g c = run-add

pub returns-clause-events_of_sum : goal.returns-clause-events_of_sum
returns-clause-events_of_sum g c = events-add

pub returns-clause-still : goal.returns-clause-still
returns-clause-still g c = run_still

pub returns-clause-silent : goal.returns-clause-silent
returns-clause-silent g c = events_still
