use Rattle.image_runs.proofs.CodeStays.{soundness_stays}
use Rattle.image_runs.proofs.other_code.sound.Goals as goal

pub returns : goal.returns
returns c = soundness_stays
