use Rattle.ir_laws.proofs.Aligned.{has_cells, found_at}
use Rattle.ir_laws.proofs.alignment.Goals as goal

pub returns-clause-aligned : goal.returns-clause-aligned
returns-clause-aligned c = has_cells

pub returns-clause-found : goal.returns-clause-found
returns-clause-found c = found_at
