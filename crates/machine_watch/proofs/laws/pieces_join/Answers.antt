use Rattle.machine_watch.proofs.Pieces.{join, no_piece}
use Rattle.machine_watch.proofs.laws.pieces_join.Goals as goal

pub returns : goal.returns
returns g c = record { join = join _; change = no_piece _ }
