-- By the lemma of that name.
use Rattle.machine_thumb.proofs.Relation.{unambiguous}
use Rattle.machine_thumb.proofs.laws.no_halfwords_are_two_instructions.Goals as goal

pub returns : goal.returns
returns c = unambiguous
