use Rattle.example_image.proofs.Computed.{computes_loop}
use Rattle.example_image.proofs.tables.control_loop.Goals as goal

pub returns : goal.returns
returns c = computes_loop
