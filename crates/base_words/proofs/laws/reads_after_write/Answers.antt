use Rattle.base_words.proofs.Bytes.{read_same, read_apart, read_below, read_above}
use Rattle.base_words.proofs.laws.reads_after_write.Goals as goal

pub returns-clause-same : goal.returns-clause-same
returns-clause-same c = read_same

pub returns-clause-apart : goal.returns-clause-apart
returns-clause-apart c = read_apart

pub returns-clause-below : goal.returns-clause-below
returns-clause-below c = read_below

pub returns-clause-above : goal.returns-clause-above
returns-clause-above c = read_above
