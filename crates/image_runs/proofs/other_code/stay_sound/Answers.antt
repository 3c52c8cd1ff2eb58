use Rattle.image_runs.proofs.CodeStays.{all_stay_sound}
use Rattle.image_runs.proofs.other_code.stay_sound.Goals as goal

pub returns : goal.returns
returns c = all_stay_sound c.rules.ensures c.sound.ensures c.page_is_full.ensures.full
