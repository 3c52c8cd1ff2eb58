use Rattle.plan_layout_laws.proofs.RamApart.{ram_is_apart}
use Rattle.plan_layout_laws.proofs.ram.Goals as goal

pub returns : goal.returns
returns c = ram_is_apart
