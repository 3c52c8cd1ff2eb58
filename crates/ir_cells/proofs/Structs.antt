-- What the entry of a struct tells of its cells and its fields.
use Rattle.std.proofs.Common.{◌≡◌, ℕ, zero, suc, ◌+◌, ◌-◌, ◌<◌, ◌≤◌, List, [], ◌∷◌, map, take, get_or, length, refl, sym, ap, subst, ◌∙◌, arith, None, length-append, zero-add}
use Rattle.std.proofs.lemmas.List.{get_or-map, length-map}
use Rattle.std.specs.List.Sorted.{IsNonDecreasingBy}
use Rattle.ir_model.specs.Types.{PlainType, type_of}
use Rattle.ir_model.specs.Plain.{PlainBinding, PlainStruct, struct_of}
use Rattle.ir_model.specs.Layout.{FieldPlace, Shape, Known, empty, shape, shifted, rounded_up, with_field, field_places, known, cell_at}
use Rattle.ir_layouts.specs.declared.struct_layout.Field.{Field}
use Rattle.ir_layouts.specs.declared.struct_layout.StructLayout.{StructLayout}
use Rattle.ir_layouts.specs.Measures.{struct_shape}
use Rattle.ir_layouts.specs.Fields.{place_of}
use Rattle.ir_layouts.specs.Tables.{IsLaid, first_cells}
use Rattle.ir_cells.specs.Halving.{IsFirstAbove, IsLastWithin}
use Rattle.ir_layouts.proofs.Sizes.{length_shifted, good}
use Rattle.ir_cells.proofs.Pieces.{further}
use Rattle.ir_cells.proofs.Fields.{fields_cells, laid_cells, Follow, fields_follow, follow_rise, cell_in_field, cell_before_fields}

abbrev pub places : StructLayout → List FieldPlace
places l = map place_of l.fields.items

pub struct_cells : (ss : List PlainStruct) (l : StructLayout) → IsLaid ss l → (struct_shape ss (struct_of l.declaration.now)).cells ≡ fields_cells (known ss) (places l)
struct_cells ss l h = laid_cells (known ss) empty (struct_of l.declaration.now).fields ∙ ap (fields_cells (known ss)) (sym h.fields)

places_follow : (ss : List PlainStruct) (l : StructLayout) → IsLaid ss l → Follow (known ss) 0 (places l)
places_follow ss l h = subst (Follow (known ss) 0) (sym h.fields) (fields_follow ss empty (struct_of l.declaration.now).fields)

pub offsets_rise : (ss : List PlainStruct) (l : StructLayout) → IsLaid ss l → IsNonDecreasingBy (λ (f : Field). f.at) l.fields.items
offsets_rise ss l h = λ i j d m n.
    let e = length-map l.fields.items place_of in
    let r = follow_rise (known ss) 0 (places l) i j (place_of d) (places_follow ss l h) m (omega (arith, e)) in
    let p = get_or-map place_of l.fields.items i d (place_of d) (omega arith) in
    let q = get_or-map place_of l.fields.items j d (place_of d) n in
    subst (λ x. x ≤ (get_or l.fields.items j d).at) (ap (λ (x : FieldPlace). x.at) p) (subst (λ x. (get_or (places l) i (place_of d)).at ≤ x) (ap (λ (x : FieldPlace). x.at) q) r)

first_at_place : (ks : List Known) (n : ℕ) (s : Shape) (fs : List PlainBinding) (k e : ℕ) → k < length fs
    → get_or (first_cells ks n fs) k e ≡ n + length (fields_cells ks (take k (field_places ks s fs)))
first_at_place ks n s [] k e l = absurd (omega arith)
first_at_place ks n s (f ∷ fs) zero e l = omega arith
first_at_place ks n s (f ∷ fs) (suc k) e l =
    let at : ℕ = rounded_up s.size (shape ks f.ty).align in
    let r = first_at_place ks (n + length (shape ks f.ty).cells) (with_field ks s f.ty) fs k e (omega arith) in
    let a = length-append (shifted at (shape ks f.ty).cells) (fields_cells ks (take k (field_places ks (with_field ks s f.ty) fs))) in
    let b = length_shifted at (shape ks f.ty).cells in
    omega (arith, r, a, b)

places_count : (ks : List Known) (s : Shape) (fs : List PlainBinding) → length (field_places ks s fs) ≡ length fs
places_count ks s [] = refl
places_count ks s (f ∷ fs) = ap suc (places_count ks (with_field ks s f.ty) fs)

-- how many cells lie before a field
pub first_cell_at : (ss : List PlainStruct) (l : StructLayout) (k : ℕ) (d : Field) → IsLaid ss l → k < length l.fields.items
    → (get_or l.fields.items k d).first_cell ≡ length (fields_cells (known ss) (take k (places l)))
first_cell_at ss l k d h m =
    let fs : List PlainBinding = (struct_of l.declaration.now).fields in
    let c : length l.fields.items ≡ length fs = sym (length-map l.fields.items place_of) ∙ (ap length h.fields ∙ places_count (known ss) empty fs) in
    sym (get_or-map (λ (f : Field). f.first_cell) l.fields.items k d 0 m)
    ∙ (ap (λ xs. get_or xs k 0) h.firsts
    ∙ (first_at_place (known ss) 0 empty fs k 0 (omega (arith, c)) ∙ zero-add (length (fields_cells (known ss) (take k (field_places (known ss) empty fs)))) ∙ ap (λ ps. length (fields_cells (known ss) (take k ps))) (sym h.fields)))

-- the cell of a struct by one of a field
pub number_in : (ss : List PlainStruct) (l : StructLayout) (j a : ℕ) (t : PlainType) (f : Field) → IsLaid ss l → IsLastWithin (λ (f : Field). f.at) l.fields.items a j
    → f ≡ get_or l.fields.items j f
    → cell_at (struct_shape ss (struct_of l.declaration.now)).cells a t ≡ further f.first_cell (cell_at (shape (known ss) (type_of f.ty.now)).cells (a - f.at) t)
number_in ss l j a t f h w e =
    let n = length-map l.fields.items place_of in
    let p : get_or (places l) j (place_of f) ≡ place_of f = get_or-map place_of l.fields.items j f (place_of f) w.0 ∙ ap place_of (sym e) in
    let at : (get_or (places l) j (place_of f)).at ≡ f.at = ap (λ (x : FieldPlace). x.at) p in
    let within : f.at ≤ a = subst (λ (x : Field). x.at ≤ a) (sym e) (w.1 f) in
    ap (λ cs. cell_at cs a t) (struct_cells ss l h)
    ∙ (cell_in_field ss 0 (places l) j (place_of f) a t (places_follow ss l h) (omega (arith, n, w.0)) (omega (arith, at, within))
    (λ k d x y. above k d x y) (a - f.at) (omega (arith, at, within))
    ∙ (ap (λ (x : FieldPlace). further (length (fields_cells (known ss) (take j (places l)))) (cell_at (shape (known ss) x.ty).cells (a - f.at) t)) p
    ∙ ap (λ x. further x (cell_at (shape (known ss) (type_of f.ty.now)).cells (a - f.at) t)) (sym (first_cell_at ss l j f h w.0) ∙ ap (λ (x : Field). x.first_cell) (sym e))))
  where
    above : (k : ℕ) (d : FieldPlace) → j < k → k < length (places l) → a < (get_or (places l) k d).at
    above k d x y =
        let n = length-map l.fields.items place_of in
        let q = get_or-map place_of l.fields.items k f d (omega (arith, n)) in
        let r = w.2 k f (omega arith) (omega (arith, n)) in
        subst (λ (z : FieldPlace). a < z.at) (sym q) r

some_field : (fs : List Field) (k : ℕ) → k < length fs → Field
some_field [] k l = absurd (omega arith)
some_field (f ∷ fs) k l = f

pub number_before : (ss : List PlainStruct) (l : StructLayout) (a : ℕ) (t : PlainType) → IsLaid ss l → IsFirstAbove (λ (f : Field). f.at) l.fields.items a 0
    → cell_at (struct_shape ss (struct_of l.declaration.now)).cells a t ≡ None
number_before ss l a t h w = ap (λ cs. cell_at cs a t) (struct_cells ss l h) ∙ cell_before_fields (known ss) a (places l) t (λ k d m. above k d m)
  where
    above : (k : ℕ) (d : FieldPlace) → k < length (places l) → a < (get_or (places l) k d).at
    above k d m =
        let n = length-map l.fields.items place_of in
        let f : Field = some_field l.fields.items k (omega (arith, n)) in
        let q = get_or-map place_of l.fields.items k f d (omega (arith, n)) in
        subst (λ (z : FieldPlace). a < z.at) (sym q) (w k f (omega arith) (omega (arith, n)))

few_before : (ss : List PlainStruct) (n : ℕ) (ps : List FieldPlace) (j : ℕ) (d : FieldPlace) → Follow (known ss) n ps → j < length ps → n + length (fields_cells (known ss) (take j ps)) ≤ (get_or ps j d).at
few_before ss n [] j d h l = absurd (omega arith)
few_before ss n (p ∷ ps) zero d h l = omega (arith, h.0)
few_before ss n (p ∷ ps) (suc j) d h l =
    let r = few_before ss (p.at + (shape (known ss) p.ty).size) ps j d h.1 (omega arith) in
    let g = good ss p.ty in
    let a = length-append (shifted p.at (shape (known ss) p.ty).cells) (fields_cells (known ss) (take j ps)) in
    let b = length_shifted p.at (shape (known ss) p.ty).cells in
    omega (arith, r, g.fewer, a, b, h.0)

-- no more cells lie before a field than bytes
pub first_below_offset : (ss : List PlainStruct) (l : StructLayout) (j : ℕ) (f : Field) → IsLaid ss l → j < length l.fields.items → f ≡ get_or l.fields.items j f → f.first_cell ≤ f.at
first_below_offset ss l j f h m e =
    let n = length-map l.fields.items place_of in
    let r = few_before ss 0 (places l) j (place_of f) (places_follow ss l h) (omega (arith, n)) in
    let p : (get_or (places l) j (place_of f)).at ≡ f.at = ap (λ (x : FieldPlace). x.at) (get_or-map place_of l.fields.items j f (place_of f) m ∙ ap place_of (sym e)) in
    let q : f.first_cell ≡ length (fields_cells (known ss) (take j (places l))) = ap (λ (x : Field). x.first_cell) e ∙ first_cell_at ss l j f h m in
    omega (arith, r, p, q)
