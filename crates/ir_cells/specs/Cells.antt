-- Beyond the program's claim: only laws, proofs and functions inside the tool cite this file.
-- Cells that are lent, and their types.
use Rattle.std.specs.Prelude.{List, map}
use Rattle.std.specs.Borrow.{Bor}
use Rattle.ir_model.specs.declared.types.Ty.{Ty}
use Rattle.ir_model.specs.Types.{PlainType, type_of}
use Rattle.ir_model.specs.Layout.{CellPlace}
use Rattle.ir_cells.specs.declared.spot.CellSpot.{CellSpot}

abbrev pub cell_of : CellSpot → CellPlace
cell_of c = record { at = c.at; ty = type_of c.ty.now }

abbrev pub lent_types : List (Bor Ty) → List PlainType
lent_types ts = map (λ (t : Bor Ty). type_of t.now) ts

abbrev pub types_of : List CellPlace → List PlainType
types_of cs = map (λ (c : CellPlace). c.ty) cs
