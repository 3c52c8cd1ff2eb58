-- Beyond the program's claim: only laws, proofs and functions inside the tool cite this file.
-- Sizes and numbers of cells that are cut off at 2^32.
use Rattle.std.specs.Prelude.{◌≡◌, ℕ, ◌^◌, ◌<◌, length, min, List}
use Rattle.ir_model.specs.declared.extent.TheConstants.{SIZE_LIMIT}
use Rattle.ir_model.specs.Plain.{PlainStruct}
use Rattle.ir_model.specs.Layout.{Shape, laid_out, empty, known}
use Rattle.ir_layouts.specs.declared.measure.Measure.{Measure}

abbrev pub capped : ℕ → ℕ
capped n = min n (2 ^ 32)

-- this is what is known of a shape
abbrev pub IsMeasure : Measure → Shape → Type 0
IsMeasure m s = (m.size ≡ capped s.size) × ((m.align ≡ s.align) × (m.cells ≡ capped (length s.cells)))

-- the shape of a struct that is laid out by others
abbrev pub struct_shape : List PlainStruct → PlainStruct → Shape
struct_shape ss s = laid_out (known ss) empty s.fields

-- a struct, and some struct of these, that passes the limit
abbrev pub IsTooLarge : (earlier : List PlainStruct) → PlainStruct → Type 0
IsTooLarge es s = SIZE_LIMIT < (struct_shape es s).size
