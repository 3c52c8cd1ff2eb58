use Rattle.std.proofs.lemmas.Slice.Eq.{slice_eq-Decides}
use Rattle.need_sets.proofs.Equal.{equal_tests}
use Rattle.need_sets.proofs.shared_rows.are_equal.Goals as goal

pub returns : goal.returns
returns c = (slice_eq-Decides equal_tests c.args.one.now c.args.other.now c.eq.result c.eq.ensures).0
