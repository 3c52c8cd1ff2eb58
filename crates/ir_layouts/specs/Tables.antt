-- Beyond the program's claim: only laws, proofs and functions inside the tool cite this file.
-- A table of structs that are laid out.
use Rattle.std.specs.Prelude.{◌≡◌, ℕ, ◌+◌, ◌<◌, ◌≤◌, ◌⊎◌, Some, List, [], ◌∷◌, ◌++◌, length, map, take}
use Rattle.std.specs.List.{slice_get}
use Rattle.std.proofs.Math.ListN.{get_or}
use Rattle.ir_model.specs.declared.extent.TheConstants.{SIZE_LIMIT}
use Rattle.ir_model.specs.declared.firmware.StructDecl.{StructDecl}
use Rattle.ir_model.specs.Plain.{PlainBinding, PlainStruct, struct_of}
use Rattle.ir_model.specs.Layout.{Known, known, shape, shape_named, empty, field_places}
use Rattle.ir_layouts.specs.declared.struct_layout.Field.{Field}
use Rattle.ir_layouts.specs.declared.struct_layout.StructLayout.{StructLayout}
use Rattle.ir_layouts.specs.Measures.{struct_shape, IsTooLarge}
use Rattle.ir_layouts.specs.Fields.{place_of}

-- how many cells lie before each field, if so many lie before the first
abbrev pub first_cells : List Known → ℕ → List PlainBinding → List ℕ
first_cells ks n [] = []
first_cells ks n (f ∷ fs) = n ∷ first_cells ks (n + length (shape ks f.ty).cells) fs

-- an entry is the layout of its struct by those before it
pub record IsLaid (ss : List PlainStruct) (l : StructLayout) : Type 0 where
  pub size : l.size ≡ (struct_shape ss (struct_of l.declaration.now)).size
  pub align : l.align ≡ (struct_shape ss (struct_of l.declaration.now)).align
  pub cells : l.cells ≡ length (struct_shape ss (struct_of l.declaration.now)).cells
  pub small : l.size ≤ SIZE_LIMIT
  pub positive : 0 < l.align
  pub most : l.align ≤ 4
  pub fewer : l.cells ≤ l.size
  pub fields : map place_of l.fields.items ≡ field_places (known ss) empty (struct_of l.declaration.now).fields
  pub firsts : map (λ (f : Field). f.first_cell) l.fields.items ≡ first_cells (known ss) 0 (struct_of l.declaration.now).fields

abbrev pub declared_by : List StructLayout → List StructDecl
declared_by ls = map (λ (l : StructLayout). l.declaration.now) ls

-- each is laid out by those before it, and found by its name
pub record AreLaid (ns : List (List ℕ)) (ls : List StructLayout) : Type 0 where
  pub names : ns ≡ map (λ (s : StructDecl). s.name) (declared_by ls)
  pub each : (k : ℕ) (l : StructLayout) → k < length ls → IsLaid (map struct_of (declared_by (take k ls))) (get_or ls k l)

-- the place of a name's struct among the first so many
pub record IsPlaceBelow (ss : List StructDecl) (below : ℕ) (name : List ℕ) (place : ℕ) : Type 0 where
  pub earlier : place < below
  pub there : place < length ss
  pub shape : (s : StructDecl) → slice_get ss place ≡ Some s → shape_named (known (map struct_of (take below ss))) name ≡ struct_shape (map struct_of (take place ss)) (struct_of s)

-- some struct behind others passes the limit
abbrev pub HasTooLarge : (earlier structs : List PlainStruct) → Type 0
HasTooLarge es [] = ⊥
HasTooLarge es (s ∷ ss) = IsTooLarge es s ⊎ HasTooLarge (es ++ s ∷ []) ss
