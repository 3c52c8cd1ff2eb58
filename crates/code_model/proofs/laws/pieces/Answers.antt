use Rattle.code_model.proofs.Pieces.{pieces_stand}
use Rattle.code_model.proofs.laws.pieces.Goals as goal

pub returns : goal.returns
returns c = pieces_stand
