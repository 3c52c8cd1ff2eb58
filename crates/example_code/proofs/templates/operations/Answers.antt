use Rattle.example_code.proofs.Operations.{computes_operations}
use Rattle.example_code.proofs.templates.operations.Goals as goal

pub returns : goal.returns
returns c = computes_operations
