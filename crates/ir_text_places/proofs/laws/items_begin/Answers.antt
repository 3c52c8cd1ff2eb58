use Rattle.ir_text_places.proofs.PlacesBegin.{items_begin}
use Rattle.ir_text_places.proofs.laws.items_begin.Goals as goal

pub returns : goal.returns
returns c = items_begin
