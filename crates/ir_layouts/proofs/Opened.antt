-- A struct is laid out field by field.
use Rattle.std.proofs.Common.{◌≡◌, ℕ, ◌+◌, ◌<◌, ◌≤◌, max, List, [], ◌∷◌, ◌++◌, map, take, drop, get_or, length, refl, sym, ap, subst, ◌∙◌, arith, length-append}
use Rattle.std.proofs.lemmas.List.{map-append, map_more, take-append-drop, take_all}
use Rattle.ir_model.specs.declared.extent.TheConstants.{SIZE_LIMIT}
use Rattle.ir_model.specs.declared.firmware.Binding.{Binding}
use Rattle.ir_model.specs.Types.{PlainType, type_of}
use Rattle.ir_model.specs.Plain.{PlainBinding, PlainStruct, binding_of, struct_of, names_of}
use Rattle.ir_model.specs.Layout.{FieldPlace, Shape, Known, empty, shape, shifted, rounded_up, with_field, laid_out, field_places, known}
use Rattle.ir_model.proofs.Counting.{rounded_at_least}
use Rattle.ir_layouts.specs.declared.measure.Measure.{Measure}
use Rattle.ir_layouts.specs.declared.struct_layout.Field.{Field}
use Rattle.ir_layouts.specs.declared.struct_layout.StructLayout.{StructLayout}
use Rattle.ir_layouts.specs.Measures.{capped, IsMeasure, IsTooLarge, struct_shape}
use Rattle.ir_layouts.specs.Fields.{place_of}
use Rattle.ir_layouts.specs.Tables.{IsLaid, first_cells}
use Rattle.ir_layouts.specs.Laying.{after, IsOpen}
use Rattle.ir_layouts.proofs.Sizes.{good, length_shifted, size_grows}

laid_after : (ks : List Known) (s : Shape) (fs : List PlainBinding) → laid_out ks s fs ≡ laid_out ks (after ks s fs) []
laid_after ks s [] = refl
laid_after ks s (f ∷ fs) = laid_after ks (with_field ks s f.ty) fs

laid_split : (ks : List Known) (s : Shape) (xs ys : List PlainBinding) → laid_out ks s (xs ++ ys) ≡ laid_out ks (after ks s xs) ys
laid_split ks s [] ys = refl
laid_split ks s (x ∷ xs) ys = laid_split ks (with_field ks s x.ty) xs ys

after_more : (ks : List Known) (s : Shape) (xs : List PlainBinding) (x : PlainBinding) → after ks s (xs ++ x ∷ []) ≡ with_field ks (after ks s xs) x.ty
after_more ks s [] x = refl
after_more ks s (y ∷ xs) x = after_more ks (with_field ks s y.ty) xs x

places_more : (ks : List Known) (s : Shape) (xs : List PlainBinding) (x : PlainBinding)
    → field_places ks s (xs ++ x ∷ []) ≡ field_places ks s xs ++ record { name = x.name; at = rounded_up (after ks s xs).size (shape ks x.ty).align; ty = x.ty } ∷ []
places_more ks s [] x = refl
places_more ks s (y ∷ xs) x =
    ap (λ ps. record { name = y.name; at = rounded_up s.size (shape ks y.ty).align; ty = y.ty } ∷ ps) (places_more ks (with_field ks s y.ty) xs x)

count_with : (ks : List Known) (s : Shape) (t : PlainType) → length (with_field ks s t).cells ≡ length s.cells + length (shape ks t).cells
count_with ks s t =
    length-append s.cells (shifted (rounded_up s.size (shape ks t).align) (shape ks t).cells)
    ∙ ap (λ n. length s.cells + n) (length_shifted (rounded_up s.size (shape ks t).align) (shape ks t).cells)

firsts_more : (ks : List Known) (s : Shape) (n : ℕ) (xs : List PlainBinding) (x : PlainBinding) → n ≡ length s.cells → first_cells ks n (xs ++ x ∷ []) ≡ first_cells ks n xs ++ length (after ks s xs).cells ∷ []
firsts_more ks s n [] x e = ap (λ m. m ∷ []) e
firsts_more ks s n (y ∷ xs) x e =
    ap (λ ms. n ∷ ms) (firsts_more ks (with_field ks s y.ty) (n + length (shape ks y.ty).cells) xs x (ap (λ m. m + length (shape ks y.ty).cells) e ∙ sym (count_with ks s y.ty)))

uncapped : (n m : ℕ) → m ≡ capped n → m ≤ SIZE_LIMIT → m ≡ n
uncapped n m e l = omega (arith, e)

-- one more field
pub open_more : (ss : List PlainStruct) (xs : List PlainBinding) (x : PlainBinding) (size align cells : ℕ) (fields : List Field) (names : List (List ℕ)) (m : Measure) (at : ℕ) (f : Field)
    → IsOpen ss xs size align cells fields names → IsMeasure m (shape (known ss) x.ty) → (0 < m.align) × (m.align ≤ 4) → m.cells ≤ m.size → at ≡ rounded_up size m.align → at + m.size ≤ SIZE_LIMIT
    → place_of f ≡ record { name = x.name; at = at; ty = x.ty } → f.first_cell ≡ cells
    → IsOpen ss (xs ++ x ∷ []) (at + m.size) (max align m.align) (cells + m.cells) (fields ++ f ∷ []) (names ++ x.name ∷ [])
open_more ss xs x size align cells fields names m at f o h a c r l p q =
    let ks : List Known = known ss in
    let s : Shape = after ks empty xs in
    let e = after_more ks empty xs x in
    let u : Shape = shape ks x.ty in
    let w : Shape = with_field ks s x.ty in
    let mu : m.size ≡ u.size = uncapped u.size m.size h.0 (omega arith) in
    let mc : m.cells ≡ length u.cells = uncapped (length u.cells) m.cells h.1.1 (omega arith) in
    let ra : at ≡ rounded_up s.size u.align = r ∙ (ap (λ n. rounded_up n m.align) o.size ∙ ap (rounded_up s.size) h.1.0) in
    let ge = rounded_at_least size m.align a.0 in
    let n = count_with ks s x.ty in
    record {
      size = (ap (λ n. n + m.size) ra ∙ ap (λ n. rounded_up s.size u.align + n) mu) ∙ ap (λ (z : Shape). z.size) (sym e);
      align = (ap (λ n. max n m.align) o.align ∙ ap (max s.align) h.1.0) ∙ ap (λ (z : Shape). z.align) (sym e);
      cells = (ap (λ n. n + m.cells) o.cells ∙ (ap (λ n. length s.cells + n) mc ∙ sym n)) ∙ ap (λ (z : Shape). length z.cells) (sym e);
      small = l;
      fewer = omega (arith, o.fewer, c, r, ge);
      positive = omega (arith, o.positive);
      most = omega (arith, o.most, a.1);
      fields = map-append place_of fields (f ∷ []) ∙ (ap (λ ps. ps ++ place_of f ∷ []) o.fields
          ∙ (ap (λ z. field_places ks empty xs ++ z ∷ []) (p ∙ ap (λ n. record { name = x.name; at = n; ty = x.ty }) ra) ∙ sym (places_more ks empty xs x)));
      firsts = map-append (λ (f : Field). f.first_cell) fields (f ∷ []) ∙ (ap (λ ps. ps ++ f.first_cell ∷ []) o.firsts
          ∙ (ap (λ z. first_cells ks 0 xs ++ z ∷ []) (q ∙ o.cells) ∙ sym (firsts_more ks empty 0 xs x refl)));
      names = ap (λ ns. ns ++ x.name ∷ []) o.names ∙ sym (map-append (λ (y : PlainBinding). y.name) xs (x ∷ []));
    }

-- the struct is too large as soon as a field ends past the limit
pub open_large : (ss : List PlainStruct) (bindings : List Binding) (i : ℕ) (x : Binding) (s : PlainStruct) (size align cells : ℕ) (fields : List Field) (names : List (List ℕ)) (m : Measure) (at : ℕ)
    → IsOpen ss (map binding_of (take i bindings)) size align cells fields names → IsMeasure m (shape (known ss) (type_of x.ty)) → 0 < m.align → at ≡ rounded_up size m.align → SIZE_LIMIT < at + m.size
    → i < length bindings → x ≡ get_or bindings i x → s.fields ≡ map binding_of bindings → IsTooLarge ss s
open_large ss bindings i x s size align cells fields names m at o h p r l b g e =
    let ks : List Known = known ss in
    let xs : List PlainBinding = map binding_of (take i bindings) in
    let t : map binding_of (take (i + 1) bindings) ≡ xs ++ binding_of x ∷ [] = map_more binding_of bindings i x b ∙ ap (λ y. xs ++ binding_of y ∷ []) (sym g) in
    let whole : map binding_of bindings ≡ (xs ++ binding_of x ∷ []) ++ map binding_of (drop (i + 1) bindings) =
    ap (map binding_of) (sym (take-append-drop (i + 1) bindings)) ∙ (map-append binding_of (take (i + 1) bindings) (drop (i + 1) bindings) ∙ ap (λ ys. ys ++ map binding_of (drop (i + 1) bindings)) t) in
    let w : Shape = with_field ks (after ks empty xs) (type_of x.ty) in
    let u : Shape = shape ks (type_of x.ty) in
    let gu = good ss (type_of x.ty) in
    let wa : 0 < w.align = omega (arith, gu.positive) in
    let grows = size_grows ss w (map binding_of (drop (i + 1) bindings)) wa in
    let same : laid_out ks empty s.fields ≡ laid_out ks w (map binding_of (drop (i + 1) bindings)) =
    ap (laid_out ks empty) (e ∙ whole) ∙ (laid_split ks empty (xs ++ binding_of x ∷ []) (map binding_of (drop (i + 1) bindings)) ∙ ap (λ z. laid_out ks z (map binding_of (drop (i + 1) bindings))) (after_more ks empty xs (binding_of x))) in
    let sz : (laid_out ks empty s.fields).size ≡ (laid_out ks w (map binding_of (drop (i + 1) bindings))).size = ap (λ (z : Shape). z.size) same in
    let ra : at ≡ rounded_up (after ks empty xs).size u.align = r ∙ (ap (λ n. rounded_up n m.align) o.size ∙ ap (rounded_up (after ks empty xs).size) h.1.0) in
    let cap : m.size ≤ u.size = at_most_size u.size m.size h.0 in
    omega (arith, grows, sz, ra, cap, l)
  where
    at_most_size : (n k : ℕ) → k ≡ capped n → k ≤ n
    at_most_size n k e = omega (arith, e)

-- a struct that is closed
pub open_closed : (ss : List PlainStruct) (s : PlainStruct) (size align cells rounded : ℕ) (fields : List Field) (names : List (List ℕ)) → IsOpen ss s.fields size align cells fields names
    → rounded ≡ rounded_up size align → rounded ≡ (struct_shape ss s).size
open_closed ss s size align cells rounded fields names o r =
    r ∙ (ap (λ n. rounded_up n align) o.size ∙ (ap (rounded_up (after (known ss) empty s.fields).size) o.align ∙ ap (λ (z : Shape). z.size) (sym (laid_after (known ss) empty s.fields))))

pub open_laid : (ss : List PlainStruct) (l : StructLayout) (size : ℕ) → IsOpen ss (struct_of l.declaration.now).fields size l.align l.cells l.fields.items l.names
    → l.size ≡ rounded_up size l.align → l.size ≤ SIZE_LIMIT → IsLaid ss l
open_laid ss l size o r b =
    let g = rounded_at_least size l.align o.positive in
    let z = laid_after (known ss) empty (struct_of l.declaration.now).fields in
    record {
      size = open_closed ss (struct_of l.declaration.now) size l.align l.cells l.size l.fields.items l.names o r;
      align = o.align ∙ ap (λ (z : Shape). z.align) (sym z);
      cells = o.cells ∙ ap (λ (z : Shape). length z.cells) (sym z);
      small = b;
      positive = o.positive;
      most = o.most;
      fewer = omega (arith, o.fewer, g, r);
      fields = o.fields;
      firsts = o.firsts;
    }

names_of_places : (ks : List Known) (s : Shape) (fs : List PlainBinding) → names_of fs ≡ map (λ (p : FieldPlace). p.name) (field_places ks s fs)
names_of_places ks s [] = refl
names_of_places ks s (f ∷ fs) = ap (λ ns. f.name ∷ ns) (names_of_places ks (with_field ks s f.ty) fs)

-- the names are those of the fields
pub open_names : (ss : List PlainStruct) (fs : List PlainBinding) (size align cells : ℕ) (fields : List Field) (names : List (List ℕ)) → IsOpen ss fs size align cells fields names
    → names ≡ map (λ (p : FieldPlace). p.name) (map place_of fields)
open_names ss fs size align cells fields names o =
    o.names ∙ (names_of_places (known ss) empty fs ∙ ap (map (λ (p : FieldPlace). p.name)) (sym o.fields))

open_same : (ss : List PlainStruct) (fs gs : List PlainBinding) (size align cells size_next align_next : ℕ) (fields fields_next : List Field) (names names_next : List (List ℕ)) → fs ≡ gs → size ≡ size_next → align ≡ align_next
    → fields ≡ fields_next → names ≡ names_next → IsOpen ss fs size align cells fields names → IsOpen ss gs size_next align_next cells fields_next names_next
open_same ss fs gs size align cells sn an fields fn names nn a b c d e o =
    subst (λ x. IsOpen ss x sn an cells fn nn) a (subst (λ x. IsOpen ss fs x an cells fn nn) b (subst (λ x. IsOpen ss fs size x cells fn nn) c
    (subst (λ x. IsOpen ss fs size align cells x nn) d (subst (λ x. IsOpen ss fs size align cells fields x) e o))))

-- a step of the loop over bindings
pub open_step : (ss : List PlainStruct) (bindings : List Binding) (i : ℕ) (x : Binding) (size align cells : ℕ) (fields : List Field) (names : List (List ℕ)) (m : Measure) (at : ℕ) (f : Field)
    (start align_next : ℕ) (fields_next : List Field) (names_next : List (List ℕ))
    → IsOpen ss (map binding_of (take i bindings)) size align cells fields names → IsMeasure m (shape (known ss) (type_of x.ty)) → (0 < m.align) × (m.align ≤ 4) → m.cells ≤ m.size
    → at ≡ rounded_up size m.align → at + m.size ≤ SIZE_LIMIT → place_of f ≡ record { name = x.name; at = at; ty = type_of x.ty } → f.first_cell ≡ cells
    → i < length bindings → x ≡ get_or bindings i x → start ≡ at → align_next ≡ max align m.align → fields_next ≡ fields ++ f ∷ [] → names_next ≡ names ++ x.name ∷ []
    → IsOpen ss (map binding_of (take (i + 1) bindings)) (start + m.size) align_next (cells + m.cells) fields_next names_next
open_step ss bindings i x size align cells fields names m at f start an fn nn o h a c r l p q b g s t u v =
    open_same ss (map binding_of (take i bindings) ++ binding_of x ∷ []) (map binding_of (take (i + 1) bindings)) (at + m.size) (max align m.align) (cells + m.cells) (start + m.size) an (fields ++ f ∷ []) fn (names ++ x.name ∷ []) nn
    (sym (map_more binding_of bindings i x b ∙ ap (λ y. map binding_of (take i bindings) ++ binding_of y ∷ []) (sym g))) (ap (λ n. n + m.size) (sym s)) (sym t) (sym u) (sym v)
    (open_more ss (map binding_of (take i bindings)) (binding_of x) size align cells fields names m at f o h a c r l p q)

-- all fields are laid out
pub open_whole : (ss : List PlainStruct) (bindings : List Binding) (i : ℕ) (s : PlainStruct) (size align cells : ℕ) (fields : List Field) (names : List (List ℕ)) → length bindings ≤ i → s.fields ≡ map binding_of bindings
    → IsOpen ss (map binding_of (take i bindings)) size align cells fields names → IsOpen ss s.fields size align cells fields names
open_whole ss bindings i s size align cells fields names l e o =
    subst (λ x. IsOpen ss x size align cells fields names) (ap (map binding_of) (take_all i bindings l) ∙ sym e) o
