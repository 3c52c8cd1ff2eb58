use Rattle.ir_laws.proofs.Facts.{contents_are_whole}
use Rattle.ir_laws.proofs.runs.contents.Goals as goal

pub returns : goal.returns
returns c = contents_are_whole
