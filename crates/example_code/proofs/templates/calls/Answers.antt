use Rattle.example_code.proofs.Calls.{computes_calls}
use Rattle.example_code.proofs.templates.calls.Goals as goal

pub returns : goal.returns
returns c = computes_calls
