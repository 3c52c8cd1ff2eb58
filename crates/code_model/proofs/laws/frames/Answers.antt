use Rattle.code_model.proofs.Frames.{frames_agree}
use Rattle.code_model.proofs.laws.frames.Goals as goal

pub returns : goal.returns
returns c = frames_agree
