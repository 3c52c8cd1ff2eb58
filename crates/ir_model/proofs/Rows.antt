use Rattle.std.proofs.Common.{◌≡◌, ◌<◌, List, [], ◌∷◌, length, false, arith, map, refl}
use Rattle.ir_model.specs.declared.types.Ty as code
use Rattle.ir_model.specs.declared.firmware.Binding.{Binding}
use Rattle.ir_model.specs.Plain.{binding_of}
use Rattle.ir_model.specs.Resolve.{row_from}
use Rattle.ir_model.specs.Types.{PlainResult, Callee, none, nothing, same, same_row, type_of, types_from}

pub more_types : (ps : List Binding) (ts : List code.Ty) → length ps < 1 → 0 < length ts → false ≡ same_row (row_from (map binding_of ps)) (types_from (map type_of ts))
more_types [] [] l h = absurd (omega arith)
more_types [] (t ∷ ts) l h = refl
more_types (p ∷ ps) ts l h = absurd (omega arith)

pub more_params : (ps : List Binding) (r : PlainResult) → 0 < length ps → false ≡ same (Callee (row_from (map binding_of ps)) r) (Callee none nothing)
more_params [] r h = absurd (omega arith)
more_params (p ∷ ps) r h = refl
