-- Beyond the program's claim: only laws, proofs and functions inside the tool cite this file.
-- The place that a spot is.
use Rattle.ir_model.specs.declared.check.CheckPlace.{CheckPlace}
use Rattle.ir_model.specs.declared.check.CheckPlace.TheVariants as place
use Rattle.ir_check_scopes.specs.declared.check_place_ref.CheckPlaceRef.{CheckPlaceRef}
use Rattle.ir_check_scopes.specs.declared.check_place_ref.CheckPlaceRef.TheVariants.{Struct, Periph, Global, File, Func, Inst, Whole}

abbrev pub place_of : CheckPlaceRef → CheckPlace
place_of (Struct n) = place.Struct n.now
place_of (Periph n) = place.Periph n.now
place_of (Global n) = place.Global n.now
place_of (File n) = place.File n.now
place_of (Func n) = place.Func n.now
place_of (Inst f b k) = place.Inst f.now b.now k
place_of Whole = place.Whole
