use Rattle.base_words.proofs.Bytes.{write-cut, write_over, write_apart}
use Rattle.base_words.proofs.laws.writes.Goals as goal

pub returns-clause-cut_first : goal.returns-clause-cut_first
returns-clause-cut_first c = write-cut

pub returns-clause-over : goal.returns-clause-over
returns-clause-over c = write_over

pub returns-clause-in_either_order : goal.returns-clause-in_either_order
returns-clause-in_either_order c = write_apart
