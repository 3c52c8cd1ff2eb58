-- By the lemma of that name.
use Rattle.machine_thumb.proofs.Relation.{round_trip}
use Rattle.machine_thumb.proofs.laws.decoding_undoes_encoding.Goals as goal

pub returns : goal.returns
returns c = round_trip
