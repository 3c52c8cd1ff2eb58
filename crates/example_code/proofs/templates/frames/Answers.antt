use Rattle.example_code.proofs.Frames.{computes_frames}
use Rattle.example_code.proofs.templates.frames.Goals as goal

pub returns : goal.returns
returns c = computes_frames
