use Rattle.ir_names.proofs.FirstPlaces.{absent}
use Rattle.ir_names.proofs.table.Names.find_or_len.Goals as goal

pub returns-in-None-clause-exact : goal.returns-in-None-clause-exact
returns-in-None-clause-exact c = let h = absent c.args.self.now c.args.word.now c.in-None.ensures in cc
