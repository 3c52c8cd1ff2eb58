use Rattle.machine_model.proofs.Listed.{turn_lists, fetches_permitted}
use Rattle.machine_model.proofs.laws.listed_accesses.Goals as goal

pub returns-clause-events : goal.returns-clause-events
returns-clause-events c = turn_lists

pub returns-clause-fetches : goal.returns-clause-fetches
returns-clause-fetches c = fetches_permitted
