use Rattle.ir_laws.proofs.Fitting.{values_fit_types, values_stay_in_sets, steps_keep_values}
use Rattle.ir_laws.proofs.runs.values.Goals as goal

pub returns-clause-types : goal.returns-clause-types
returns-clause-types c = values_fit_types

pub returns-clause-sets : goal.returns-clause-sets
returns-clause-sets c = values_stay_in_sets

pub returns-clause-steps : goal.returns-clause-steps
returns-clause-steps c = steps_keep_values
