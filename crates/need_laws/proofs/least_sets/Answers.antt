use Rattle.need_laws.proofs.Least.{least_sets_have_objects, least_sets_serve}
use Rattle.need_laws.proofs.least_sets.Goals as goal

pub returns : goal.returns
returns c = record { objects = least_sets_have_objects; serve = least_sets_serve c.places.ensures }
