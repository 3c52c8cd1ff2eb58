use Rattle.example_machine.proofs.Frame.{computes_frame}
use Rattle.example_machine.proofs.firmwares.frames.Goals as goal

pub returns : goal.returns
returns c = computes_frame
