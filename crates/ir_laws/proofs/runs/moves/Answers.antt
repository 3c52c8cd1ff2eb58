use Rattle.ir_laws.proofs.Moving.{frames_move}
use Rattle.ir_laws.proofs.runs.moves.Goals as goal

pub returns : goal.returns
returns c = frames_move
