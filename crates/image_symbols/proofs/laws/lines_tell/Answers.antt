use Rattle.image_symbols.proofs.Lines.{lines_tell_places, lines_tell_bytes}
use Rattle.image_symbols.proofs.laws.lines_tell.Goals as goal

pub returns : goal.returns
returns c = record { places = lines_tell_places; bytes = lines_tell_bytes }
