use Rattle.std.proofs.lemmas.Slice.Eq.{slice_eq-Decides}
use Rattle.aces_selftest.proofs.SameEvents.{same_event}
use Rattle.aces_selftest.proofs.telling.same_events.Goals as goal

pub returns : goal.returns
returns c = slice_eq-Decides same_event _ _ _ c.eq.ensures
