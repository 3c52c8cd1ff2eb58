-- By the lemma of that name.
use Rattle.machine_thumb.proofs.LeftOut.{shows_its_length}
use Rattle.machine_thumb.proofs.laws.first_halfword_shows_length.Goals as goal

pub returns : goal.returns
returns c = shows_its_length
