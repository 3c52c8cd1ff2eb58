-- Beyond the program's claim: only laws, proofs and functions inside the tool cite this file.
-- A struct that is being laid out.
use Rattle.std.specs.Prelude.{◌≡◌, ℕ, ◌<◌, ◌≤◌, List, [], ◌∷◌, length, map}
use Rattle.ir_model.specs.declared.extent.TheConstants.{SIZE_LIMIT}
use Rattle.ir_model.specs.Plain.{PlainBinding, PlainStruct, names_of}
use Rattle.ir_model.specs.Layout.{Shape, Known, empty, with_field, field_places, known}
use Rattle.ir_layouts.specs.declared.struct_layout.Field.{Field}
use Rattle.ir_layouts.specs.Fields.{place_of}
use Rattle.ir_layouts.specs.Tables.{first_cells}

-- what is laid out behind these fields, before it is closed
abbrev pub after : List Known → Shape → List PlainBinding → Shape
after ks s [] = s
after ks s (f ∷ fs) = after ks (with_field ks s f.ty) fs

-- what is laid out of a struct so far
pub record IsOpen (ss : List PlainStruct) (fs : List PlainBinding) (bytes boundary count : ℕ) (spots : List Field) (words : List (List ℕ)) : Type 0 where
  pub size : bytes ≡ (after (known ss) empty fs).size
  pub align : boundary ≡ (after (known ss) empty fs).align
  pub cells : count ≡ length (after (known ss) empty fs).cells
  pub small : bytes ≤ SIZE_LIMIT
  pub fewer : count ≤ bytes
  pub positive : 0 < boundary
  pub most : boundary ≤ 4
  pub fields : map place_of spots ≡ field_places (known ss) empty fs
  pub firsts : map (λ (f : Field). f.first_cell) spots ≡ first_cells (known ss) 0 fs
  pub names : words ≡ names_of fs
