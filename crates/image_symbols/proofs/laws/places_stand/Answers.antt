use Rattle.image_symbols.proofs.Functions.{places_of_functions}
use Rattle.image_symbols.proofs.laws.places_stand.Goals as goal

pub returns : goal.returns
returns c = places_of_functions c.functions_stand.ensures c.pieces.ensures
