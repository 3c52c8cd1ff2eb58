-- Beyond the program's claim: only laws, proofs and functions inside the tool cite this file.
-- Fields by their names.
use Rattle.std.specs.Prelude.{ℕ, List, [], ◌∷◌, Option, Some, None, if◌then◌else◌, bytes_eq}
use Rattle.ir_model.specs.Types.{type_of}
use Rattle.ir_model.specs.Layout.{FieldPlace}
use Rattle.ir_layouts.specs.declared.struct_layout.Field.{Field}

abbrev pub place_of : Field → FieldPlace
place_of f = record { name = f.name.now; at = f.at; ty = type_of f.ty.now }

-- the first of a name
abbrev pub place_named : List FieldPlace → List ℕ → Option FieldPlace
place_named [] n = None
place_named (f ∷ fs) n = if bytes_eq f.name n then Some f else place_named fs n
