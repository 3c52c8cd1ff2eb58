use Rattle.image_symbols.proofs.Functions.{functions}
use Rattle.image_symbols.proofs.laws.functions_stand.Goals as goal

pub returns : goal.returns
returns c = functions c.code.ensures c.code-2.ensures.exact
