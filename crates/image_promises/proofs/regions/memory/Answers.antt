use Rattle.image_promises.proofs.Rules.{memory_obeys_rules}
use Rattle.image_promises.proofs.regions.memory.Goals as goal

pub returns : goal.returns
returns c = memory_obeys_rules c.images.ensures c.memory.ensures
