-- Steps of a walk down a type to the cell at an offset.
use Rattle.std.proofs.Common.{◌≡◌, ℕ, ◌+◌, ◌-◌, ◌*◌, ◌/◌, ◌%◌, ◌^◌, ◌<◌, ◌≤◌, List, map, take, get_or, length, refl, sym, ap, subst, ◌∙◌, arith, Option, Some, None}
use Rattle.std.specs.List.{slice_get}
use Rattle.std.proofs.Math.Nat.{pos_of_ne-zero}
use Rattle.ir_model.specs.declared.firmware.StructDecl.{StructDecl}
use Rattle.ir_model.specs.Types.{PlainType, Array, Named, type_of}
use Rattle.ir_model.specs.Plain.{PlainStruct, struct_of}
use Rattle.ir_model.specs.Layout.{Shape, empty, shape, shape_named, known, cell_at}
use Rattle.ir_model.proofs.Arrays.{arrays}
use Rattle.ir_layouts.specs.declared.measure.Measure.{Measure}
use Rattle.ir_layouts.specs.declared.struct_layout.Field.{Field}
use Rattle.ir_layouts.specs.declared.struct_layout.StructLayout.{StructLayout}
use Rattle.ir_layouts.specs.Measures.{IsMeasure, struct_shape}
use Rattle.ir_layouts.specs.Tables.{IsLaid, IsPlaceBelow}
use Rattle.ir_cells.specs.Halving.{IsFirstAbove, IsLastWithin}
use Rattle.ir_layouts.proofs.Sizes.{good}
use Rattle.ir_cells.proofs.Pieces.{further}
use Rattle.ir_cells.proofs.Arrays.{number_nowhere, number_past, number_of_element}
use Rattle.ir_cells.proofs.Structs.{number_in, number_before, first_below_offset}
use Rattle.ir_cells.proofs.Weights.{structs_weight, field_weighs, struct_weighs}

-- the cells that lie at an offset of a type
abbrev pub at_offset : List PlainStruct → PlainType → ℕ → PlainType → Option ℕ
at_offset ss t a of = cell_at (shape (known ss) t).cells a of

pub walk_nowhere : (ss : List PlainStruct) (u t : PlainType) (n a : ℕ) (of : PlainType) (m : Measure) → u ≡ Array n t → IsMeasure m (shape (known ss) t) → m.size ≡ 0 → None ≡ at_offset ss u a of
walk_nowhere ss u t n a of m e h z = sym (ap (λ x. at_offset ss x a of) e ∙ number_nowhere n a of m (shape (known ss) t) h (good ss t) z)

pub walk_past : (ss : List PlainStruct) (u t : PlainType) (n a : ℕ) (of : PlainType) (m : Measure) → u ≡ Array n t → IsMeasure m (shape (known ss) t) → (m.size ≡ 0 → ⊥) → a < 2 ^ 32
    → n ≤ a / m.size → None ≡ at_offset ss u a of
walk_past ss u t n a of m e h p b l = sym (ap (λ x. at_offset ss x a of) e ∙ number_past n a (a / m.size) of m (shape (known ss) t) h (good ss t) (pos_of_ne-zero {n = m.size} p) b refl l)

pub walk_element : (ss : List PlainStruct) (u t : PlainType) (n a : ℕ) (of : PlainType) (m : Measure) → u ≡ Array n t → IsMeasure m (shape (known ss) t) → (m.size ≡ 0 → ⊥) → a < 2 ^ 32
    → a / m.size < n → (r : Option ℕ) → r ≡ at_offset ss t (a % m.size) of → at_offset ss u a of ≡ further (a / m.size * m.cells) r
walk_element ss u t n a of m e h p b l r q =
    ap (λ x. at_offset ss x a of) e
    ∙ (number_of_element n a (a / m.size) (a % m.size) of m (shape (known ss) t) h (good ss t) (pos_of_ne-zero {n = m.size} p) b refl refl l ∙ ap (further (a / m.size * m.cells)) (sym q))

no_cell : (s : Shape) (a : ℕ) (of : PlainType) → s ≡ empty → cell_at s.cells a of ≡ None
unfolding cell_at
no_cell s a of e = ap (λ (x : Shape). cell_at x.cells a of) e

pub walk_missing : (ss : List PlainStruct) (u : PlainType) (n : List ℕ) (a : ℕ) (of : PlainType) → u ≡ Named n → shape_named (known ss) n ≡ empty → None ≡ at_offset ss u a of
walk_missing ss u n a of e h = sym (ap (λ x. at_offset ss x a of) e ∙ no_cell (shape_named (known ss) n) a of h)

-- the struct that a name means
pub named_shape : (ss : List StructDecl) (b : ℕ) (u : PlainType) (n : List ℕ) (k : ℕ) (l : StructLayout) → u ≡ Named n → IsPlaceBelow ss b n k → slice_get ss k ≡ Some l.declaration.now
    → shape (known (map struct_of (take b ss))) u ≡ struct_shape (map struct_of (take k ss)) (struct_of l.declaration.now)
named_shape ss b u n k l e p g = ap (shape (known (map struct_of (take b ss)))) e ∙ p.shape l.declaration.now g

pub walk_before : (ss : List StructDecl) (b : ℕ) (u : PlainType) (n : List ℕ) (k : ℕ) (l : StructLayout) (a : ℕ) (of : PlainType) → u ≡ Named n → IsPlaceBelow ss b n k
    → slice_get ss k ≡ Some l.declaration.now → IsLaid (map struct_of (take k ss)) l → IsFirstAbove (λ (f : Field). f.at) l.fields.items a 0 → None ≡ at_offset (map struct_of (take b ss)) u a of
walk_before ss b u n k l a of e p g h w =
    sym (ap (λ (s : Shape). cell_at s.cells a of) (named_shape ss b u n k l e p g) ∙ number_before (map struct_of (take k ss)) l a of h w)

pub walk_field : (ss : List StructDecl) (b : ℕ) (u : PlainType) (n : List ℕ) (k : ℕ) (l : StructLayout) (j a : ℕ) (of : PlainType) (f : Field) → u ≡ Named n → IsPlaceBelow ss b n k
    → slice_get ss k ≡ Some l.declaration.now → IsLaid (map struct_of (take k ss)) l → IsLastWithin (λ (f : Field). f.at) l.fields.items a j → f ≡ get_or l.fields.items j f
    → (r : Option ℕ) → r ≡ at_offset (map struct_of (take k ss)) (type_of f.ty.now) (a - f.at) of
    → at_offset (map struct_of (take b ss)) u a of ≡ further f.first_cell r
walk_field ss b u n k l j a of f e p g h w i r q =
    ap (λ (s : Shape). cell_at s.cells a of) (named_shape ss b u n k l e p g)
    ∙ (number_in (map struct_of (take k ss)) l j a of f h w i ∙ ap (further f.first_cell) (sym q))

-- the walk goes down
pub walk_falls : (ss : List StructDecl) (b : ℕ) (u : PlainType) (n : List ℕ) (k : ℕ) (l : StructLayout) (j : ℕ) (f : Field) → u ≡ Named n → IsPlaceBelow ss b n k
    → slice_get ss k ≡ Some l.declaration.now → IsLaid (map struct_of (take k ss)) l → j < length l.fields.items → f ≡ get_or l.fields.items j f
    → structs_weight (take k ss) + arrays (type_of f.ty.now) < structs_weight (take b ss) + arrays u
walk_falls ss b u n k l j f e p g h m i =
    let x = field_weighs (map struct_of (take k ss)) l j f h m i in
    let y = struct_weighs ss b k l.declaration.now p.earlier g in
    omega (arith, x, y)

pub walk_fits : (ss : List PlainStruct) (l : StructLayout) (j a n : ℕ) (f : Field) → IsLaid ss l → IsLastWithin (λ (f : Field). f.at) l.fields.items a j → f ≡ get_or l.fields.items j f
    → n ≤ a - f.at → f.first_cell + n ≤ a
walk_fits ss l j a n f h w e m =
    let q = first_below_offset ss l j f h w.0 e in
    let within : f.at ≤ a = subst (λ (x : Field). x.at ≤ a) (sym e) (w.1 f) in
    omega (arith, q, within, m)
