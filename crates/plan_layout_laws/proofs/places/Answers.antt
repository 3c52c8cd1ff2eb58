use Rattle.plan_layout_laws.proofs.RamInside.{ram_is_inside}
use Rattle.plan_layout_laws.proofs.RamThere.{ram_is_there}
use Rattle.plan_layout_laws.proofs.places.Goals as goal

pub returns-clause-there : goal.returns-clause-there
returns-clause-there c = ram_is_there

pub returns-clause-inside : goal.returns-clause-inside
returns-clause-inside c = ram_is_inside
