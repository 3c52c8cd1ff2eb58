use Rattle.code_lower_laws.proofs.Fitting.{typed_functions_fit, typed_jumps_inside}
use Rattle.code_lower_laws.proofs.laws.typed_functions.Goals as goal

pub returns-clause-fit : goal.returns-clause-fit
returns-clause-fit c = typed_functions_fit c.places.ensures c.counts.ensures c.frames.ensures c.checked_frames_fit.ensures

pub returns-clause-inside : goal.returns-clause-inside
returns-clause-inside c = typed_jumps_inside c.places.ensures
