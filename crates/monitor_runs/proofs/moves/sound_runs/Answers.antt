use Rattle.monitor_runs.proofs.Together.{sound_images_tell}
use Rattle.monitor_runs.proofs.moves.sound_runs.Goals as goal

pub returns : goal.returns
returns c = sound_images_tell c.who_runs.ensures c.calls_come_back.ensures c.unread_bytes.ensures
