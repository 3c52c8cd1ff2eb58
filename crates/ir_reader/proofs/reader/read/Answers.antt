use Rattle.ir_reader.proofs.Firsts.{first_named}
use Rattle.ir_reader.proofs.reader.read.Goals as goal

pub returns-clause-first : goal.returns-clause-first
returns-clause-first c = first_named c.args.text.now c.read_utf8.result c.read_utf8.ensures.refused
