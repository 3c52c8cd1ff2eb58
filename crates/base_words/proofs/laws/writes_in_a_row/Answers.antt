use Rattle.base_words.proofs.Bytes.{length-write_all, read_all, read_apart_all, read_below_all, read_above_all}
use Rattle.base_words.proofs.laws.writes_in_a_row.Goals as goal

pub returns-clause-as_long : goal.returns-clause-as_long
returns-clause-as_long c = length-write_all

pub returns-clause-each : goal.returns-clause-each
returns-clause-each c = read_all

pub returns-clause-apart : goal.returns-clause-apart
returns-clause-apart c = read_apart_all

pub returns-clause-below : goal.returns-clause-below
returns-clause-below c = read_below_all

pub returns-clause-above : goal.returns-clause-above
returns-clause-above c = read_above_all
