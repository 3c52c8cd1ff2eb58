-- Sizes, alignments, and where the cells of a type lie. Sizes and offsets are in bytes.
use Rattle.std.specs.Prelude.{ℕ, zero, suc, ◌+◌, ◌-◌, ◌*◌, ◌/◌, List, [], ◌∷◌, ◌++◌, map, if◌then◌else◌, max, Option, Some, None, ◌&&◌, nat_eq, bytes_eq}
use Rattle.ir_model.specs.Types.{PlainType, U8, U16, U32, Pointer, Array, Named, Callee, same}
use Rattle.ir_model.specs.Plain.{PlainBinding, PlainStruct}

-- a place of a type that holds one value
pub record CellPlace : Type 0 where
  pub at : ℕ
  pub ty : PlainType

-- a type's size, its alignment and its cells in order
pub record Shape : Type 0 where
  pub size : ℕ
  pub align : ℕ
  pub cells : List CellPlace

pub record FieldPlace : Type 0 where
  pub name : List ℕ
  pub at : ℕ
  pub ty : PlainType

-- a struct that is declared
pub record Known : Type 0 where
  pub name : List ℕ
  pub shape : Shape
  pub fields : List FieldPlace

abbrev pub empty : Shape
empty = record { size = 0; align = 1; cells = [] }

-- the names of structs that are laid out
abbrev pub names_of_known : List Known → List (List ℕ)
names_of_known ks = map (λ (k : Known). k.name) ks

-- by the first struct of a name
abbrev pub shape_named : List Known → List ℕ → Shape
shape_named [] n = empty
shape_named (k ∷ ks) n = if bytes_eq k.name n then k.shape else shape_named ks n

abbrev pub fields_named : List Known → List ℕ → List FieldPlace
fields_named [] n = []
fields_named (k ∷ ks) n = if bytes_eq k.name n then k.fields else fields_named ks n

-- cells so many bytes further on
abbrev pub shifted : ℕ → List CellPlace → List CellPlace
shifted d [] = []
shifted d (c ∷ cs) = record { at = d + c.at; ty = c.ty } ∷ shifted d cs

abbrev pub copies : (count at step : ℕ) → List CellPlace → List CellPlace
copies zero at step cs = []
copies (suc n) at step cs = shifted at cs ++ copies n (at + step) step cs

abbrev pub one_cell : ℕ → PlainType → Shape
one_cell n t = record { size = n; align = n; cells = record { at = 0; ty = t } ∷ [] }

abbrev pub array_of : ℕ → Shape → Shape
array_of n s = record { size = n * s.size; align = s.align; cells = copies n 0 s.size s.cells }

abbrev pub shape : List Known → PlainType → Shape
shape ks U8 = one_cell 1 U8
shape ks U16 = one_cell 2 U16
shape ks U32 = one_cell 4 U32
shape ks (Pointer t) = one_cell 4 (Pointer t)
shape ks (Array n t) = array_of n (shape ks t)
shape ks (Named n) = shape_named ks n
shape ks (Callee a r) = one_cell 4 (Callee a r)

-- the next multiple of an alignment
abbrev pub rounded_up : ℕ → ℕ → ℕ
rounded_up n a = (n + (a - 1)) / a * a

-- a field behind what is laid out
abbrev pub with_field : List Known → Shape → PlainType → Shape
with_field ks s t =
    let u : Shape = shape ks t in
    let at : ℕ = rounded_up s.size u.align in
    record { size = at + u.size; align = max s.align u.align; cells = s.cells ++ shifted at u.cells }

abbrev pub laid_out : List Known → Shape → List PlainBinding → Shape
laid_out ks s [] = record s { size = rounded_up s.size s.align }
laid_out ks s (f ∷ fs) = laid_out ks (with_field ks s f.ty) fs

abbrev pub field_places : List Known → Shape → List PlainBinding → List FieldPlace
field_places ks s [] = []
field_places ks s (f ∷ fs) =
    record { name = f.name; at = rounded_up s.size (shape ks f.ty).align; ty = f.ty } ∷ field_places ks (with_field ks s f.ty) fs

abbrev pub with_struct : List Known → PlainStruct → List Known
with_struct ks s =
    ks ++ record { name = s.name; shape = laid_out ks empty s.fields; fields = field_places ks empty s.fields } ∷ []

abbrev pub known_behind : List Known → List PlainStruct → List Known
known_behind ks [] = ks
known_behind ks (s ∷ ss) = known_behind (with_struct ks s) ss

-- the structs, each laid out by those before it
unfoldable pub known : List PlainStruct → List Known
known ss = known_behind [] ss

-- the place in order of the cell of a type at an offset
abbrev pub one_later : Option ℕ → Option ℕ
one_later None = None
one_later (Some k) = Some (suc k)

unfoldable pub cell_at : List CellPlace → (at : ℕ) → PlainType → Option ℕ
cell_at [] at t = None
cell_at (c ∷ cs) at t = if nat_eq c.at at && same c.ty t then Some zero else one_later (cell_at cs at t)
