use Rattle.code_model.proofs.CheckedFrames.{frame_fits}
use Rattle.code_model.proofs.frame_laws.checked_frames_fit.Goals as goal

pub returns : goal.returns
returns c = λ w f t h. frame_fits w f t h
