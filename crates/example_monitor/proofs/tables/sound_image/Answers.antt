use Rattle.example_monitor.proofs.Joined.{computes_joined}
use Rattle.example_monitor.proofs.tables.sound_image.Goals as goal

pub returns : goal.returns
returns c = computes_joined
