-- By the lemma of that name.
use Rattle.machine_thumb.proofs.LeftOut.{leaves_out}
use Rattle.machine_thumb.proofs.laws.excluded_forms_are_undefined.Goals as goal

pub returns : goal.returns
returns c = leaves_out
