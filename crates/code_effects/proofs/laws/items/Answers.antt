use Rattle.code_effects.proofs.ItemBytes.{items_stand}
use Rattle.code_effects.proofs.laws.items.Goals as goal

pub returns : goal.returns
returns c = items_stand
