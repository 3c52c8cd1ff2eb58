-- The types of the cells of a type in order, up to a number of them.
use Rattle.std.proofs.Common.{◌≡◌, ℕ, zero, suc, ◌+◌, ◌-◌, ◌<◌, ◌≤◌, List, [], ◌∷◌, ◌++◌, map, take, drop, get_or, length, refl, sym, ap, ◌∙◌, arith, Bor, Some, zero-add, add-one}
use Rattle.std.proofs.Math.Nat.{suc-add}
use Rattle.std.specs.List.{slice_get}
use Rattle.std.proofs.lemmas.List.{length-map, map-append, append_assoc, take_all, take-append-drop, append-nil}
use Rattle.ir_model.specs.declared.types.Ty.{Ty}
use Rattle.ir_model.specs.declared.firmware.StructDecl.{StructDecl}
use Rattle.ir_model.specs.Types.{PlainType, Array, Named, type_of}
use Rattle.ir_model.specs.Plain.{PlainStruct, struct_of}
use Rattle.ir_model.specs.Layout.{CellPlace, Shape, shape, shifted, copies, known}
use Rattle.ir_layouts.specs.declared.measure.Measure.{Measure}
use Rattle.ir_layouts.specs.declared.struct_layout.Field.{Field}
use Rattle.ir_layouts.specs.declared.struct_layout.StructLayout.{StructLayout}
use Rattle.ir_layouts.specs.Measures.{IsMeasure}
use Rattle.ir_cells.specs.Cells.{lent_types, types_of}
use Rattle.ir_layouts.specs.Fields.{place_of}
use Rattle.ir_layouts.specs.Tables.{IsLaid, IsPlaceBelow}
use Rattle.ir_cells.proofs.Fields.{fields_cells}
use Rattle.ir_cells.proofs.Structs.{struct_cells}
use Rattle.ir_cells.proofs.Numbered.{zero_cells}
use Rattle.ir_cells.proofs.Walks.{named_shape}

abbrev pub repeated : ℕ → List PlainType → List PlainType
repeated zero ts = []
repeated (suc n) ts = ts ++ repeated n ts

repeated_more : (n : ℕ) (ts : List PlainType) → repeated (suc n) ts ≡ repeated n ts ++ ts
repeated_more zero ts = append-nil ts
repeated_more (suc n) ts = ap (λ r. ts ++ r) (repeated_more n ts) ∙ sym (append_assoc ts (repeated n ts) ts)

repeated_split : (j k : ℕ) (ts : List PlainType) → repeated (j + k) ts ≡ repeated j ts ++ repeated k ts
repeated_split zero k ts = ap (λ n. repeated n ts) (zero-add k)
repeated_split (suc j) k ts =
    ap (λ n. repeated n ts) (suc-add j k) ∙ (ap (λ r. ts ++ r) (repeated_split j k ts) ∙ sym (append_assoc ts (repeated j ts) (repeated k ts)))

types_shifted : (d : ℕ) (cs : List CellPlace) → types_of (shifted d cs) ≡ types_of cs
types_shifted d [] = refl
types_shifted d (c ∷ cs) = ap (λ ts. c.ty ∷ ts) (types_shifted d cs)

types_append : (xs ys : List CellPlace) → types_of (xs ++ ys) ≡ types_of xs ++ types_of ys
types_append xs ys = map-append (λ (c : CellPlace). c.ty) xs ys

types_copies : (n at step : ℕ) (cs : List CellPlace) → types_of (copies n at step cs) ≡ repeated n (types_of cs)
types_copies zero at step cs = refl
types_copies (suc n) at step cs =
    types_append (shifted at cs) (copies n (at + step) step cs)
    ∙ (ap (λ ts. ts ++ types_of (copies n (at + step) step cs)) (types_shifted at cs) ∙ ap (λ ts. types_of cs ++ ts) (types_copies n (at + step) step cs))

-- the types of a type's cells
abbrev pub row_of : List PlainStruct → PlainType → List PlainType
row_of ss t = types_of (shape (known ss) t).cells

abbrev pub fields_row : List PlainStruct → List Field → List PlainType
fields_row ss [] = []
fields_row ss (f ∷ fs) = row_of ss (type_of f.ty.now) ++ fields_row ss fs

fields_types : (ss : List PlainStruct) (fs : List Field) → types_of (fields_cells (known ss) (map place_of fs)) ≡ fields_row ss fs
fields_types ss [] = refl
fields_types ss (f ∷ fs) =
    types_append (shifted f.at (shape (known ss) (type_of f.ty.now)).cells) (fields_cells (known ss) (map place_of fs))
    ∙ (ap (λ ts. ts ++ types_of (fields_cells (known ss) (map place_of fs))) (types_shifted f.at (shape (known ss) (type_of f.ty.now)).cells)
    ∙ ap (λ ts. row_of ss (type_of f.ty.now) ++ ts) (fields_types ss fs))

fields_row_append : (ss : List PlainStruct) (xs ys : List Field) → fields_row ss (xs ++ ys) ≡ fields_row ss xs ++ fields_row ss ys
fields_row_append ss [] ys = refl
fields_row_append ss (x ∷ xs) ys =
    ap (λ ts. row_of ss (type_of x.ty.now) ++ ts) (fields_row_append ss xs ys) ∙ sym (append_assoc (row_of ss (type_of x.ty.now)) (fields_row ss xs) (fields_row ss ys))

-- so many of a list that grows
take_twice : (n : ℕ) (xs ys : List PlainType) → take n (take n xs ++ ys) ≡ take n (xs ++ ys)
take_twice zero xs ys = refl
take_twice (suc n) [] ys = refl
take_twice (suc n) (x ∷ xs) ys = ap (λ r. x ∷ r) (take_twice n xs ys)

take_full : (n : ℕ) (xs ys : List PlainType) → length (take n xs) ≡ n → take n (xs ++ ys) ≡ take n xs
take_full zero xs ys e = refl
take_full (suc n) [] ys e = absurd (omega arith)
take_full (suc n) (x ∷ xs) ys e = ap (λ r. x ∷ r) (take_full n xs ys (omega arith))

length_taken : (n : ℕ) (xs : List PlainType) → length (take n xs) ≤ n
length_taken zero xs = omega arith
length_taken (suc n) [] = omega arith
length_taken (suc n) (x ∷ xs) = let r = length_taken n xs in omega (arith, r)

-- there are at most so many
pub at_most : (most : ℕ) (items : List (Bor Ty)) (xs : List PlainType) → lent_types items ≡ take most xs → length items ≤ most
at_most most items xs e =
    let a : length (lent_types items) ≡ length items = length-map items (λ (t : Bor Ty). type_of t.now) in
    let b : length (lent_types items) ≡ length (take most xs) = ap length e in
    let c = length_taken most xs in
    omega (arith, a, b, c)

pub row_start : (most : ℕ) (items : List (Bor Ty)) (zs : List PlainType) → length items ≤ most → zs ≡ [] → lent_types items ≡ take most (lent_types items ++ zs)
row_start most items zs l e =
    let a : length (lent_types items) ≡ length items = length-map items (λ (t : Bor Ty). type_of t.now) in
    sym (ap (λ r. take most (lent_types items ++ r)) e ∙ (ap (take most) (append-nil (lent_types items)) ∙ take_all most (lent_types items) (omega (arith, a, l))))

pub row_more : (most : ℕ) (old now next : List (Bor Ty)) (xs ys zs : List PlainType) → lent_types now ≡ take most (lent_types old ++ xs) → lent_types next ≡ take most (lent_types now ++ ys) → zs ≡ xs ++ ys
    → lent_types next ≡ take most (lent_types old ++ zs)
row_more most old now next xs ys zs e f g =
    f ∙ (ap (λ r. take most (r ++ ys)) e ∙ (take_twice most (lent_types old ++ xs) ys ∙ (ap (take most) (append_assoc (lent_types old) xs ys) ∙ ap (λ r. take most (lent_types old ++ r)) (sym g))))

pub row_full : (most : ℕ) (old now : List (Bor Ty)) (xs ys zs : List PlainType) → lent_types now ≡ take most (lent_types old ++ xs) → length now ≡ most → zs ≡ xs ++ ys → lent_types now ≡ take most (lent_types old ++ zs)
row_full most old now xs ys zs e l g =
    let a : length (lent_types now) ≡ length now = length-map now (λ (t : Bor Ty). type_of t.now) in
    let b : length (lent_types now) ≡ length (take most (lent_types old ++ xs)) = ap length e in
    e ∙ (sym (take_full most (lent_types old ++ xs) ys (omega (arith, a, b, l))) ∙ (ap (take most) (append_assoc (lent_types old) xs ys) ∙ ap (λ r. take most (lent_types old ++ r)) (sym g)))

-- arrays
pub row_array : (ss : List PlainStruct) (u t : PlainType) (n : ℕ) → u ≡ Array n t → row_of ss u ≡ repeated n (row_of ss t)
row_array ss u t n e = ap (row_of ss) e ∙ types_copies n 0 (shape (known ss) t).size (shape (known ss) t).cells

no_types : (cs : List CellPlace) → length cs ≡ 0 → types_of cs ≡ []
no_types [] e = refl
no_types (c ∷ cs) e = absurd (omega arith)

repeated_nothing : (n : ℕ) (ts : List PlainType) → ts ≡ [] → repeated n ts ≡ []
repeated_nothing zero ts e = refl
repeated_nothing (suc n) ts e = ap (λ r. r ++ repeated n ts) e ∙ repeated_nothing n ts e

pub row_no_cells : (ss : List PlainStruct) (u t : PlainType) (n : ℕ) (m : Measure) → u ≡ Array n t → IsMeasure m (shape (known ss) t) → m.cells ≡ 0 → row_of ss u ≡ []
row_no_cells ss u t n m e h z =
    row_array ss u t n e ∙ repeated_nothing n (row_of ss t) (no_types (shape (known ss) t).cells (zero_cells (length (shape (known ss) t).cells) m.cells h.1.1 z))

pub row_step : (ss : List PlainStruct) (t : PlainType) (k : ℕ) → repeated (k + 1) (row_of ss t) ≡ repeated k (row_of ss t) ++ row_of ss t
row_step ss t k = ap (λ n. repeated n (row_of ss t)) (add-one k) ∙ repeated_more k (row_of ss t)

pub row_rest : (ss : List PlainStruct) (u t : PlainType) (n k : ℕ) → u ≡ Array n t → k ≤ n → row_of ss u ≡ repeated k (row_of ss t) ++ repeated (n - k) (row_of ss t)
row_rest ss u t n k e l =
    let q : n ≡ k + (n - k) = omega arith in
    row_array ss u t n e ∙ (ap (λ x. repeated x (row_of ss t)) q ∙ repeated_split k (n - k) (row_of ss t))

-- structs
pub row_struct : (ss : List StructDecl) (b : ℕ) (u : PlainType) (n : List ℕ) (k : ℕ) (l : StructLayout) → u ≡ Named n → IsPlaceBelow ss b n k → slice_get ss k ≡ Some l.declaration.now
    → IsLaid (map struct_of (take k ss)) l → row_of (map struct_of (take b ss)) u ≡ fields_row (map struct_of (take k ss)) l.fields.items
row_struct ss b u n k l e p g h =
    ap (λ (s : Shape). types_of s.cells) (named_shape ss b u n k l e p g)
    ∙ (ap types_of (struct_cells (map struct_of (take k ss)) l h) ∙ fields_types (map struct_of (take k ss)) l.fields.items)

take_next : (fs : List Field) (k : ℕ) (f : Field) → k < length fs → f ≡ get_or fs k f → take (suc k) fs ≡ take k fs ++ f ∷ []
take_next [] k f l e = absurd (omega arith)
take_next (x ∷ fs) zero f l e = ap (λ y. y ∷ []) (sym e)
take_next (x ∷ fs) (suc k) f l e = ap (λ r. x ∷ r) (take_next fs k f (omega arith) e)

pub field_step : (ss : List PlainStruct) (fs : List Field) (k : ℕ) (f : Field) → k < length fs → f ≡ get_or fs k f → fields_row ss (take (k + 1) fs) ≡ fields_row ss (take k fs) ++ row_of ss (type_of f.ty.now)
field_step ss fs k f l e =
    ap (fields_row ss) (ap (λ n. take n fs) (add-one k) ∙ take_next fs k f l e)
    ∙ (fields_row_append ss (take k fs) (f ∷ []) ∙ ap (λ ts. fields_row ss (take k fs) ++ ts) (append-nil (row_of ss (type_of f.ty.now))))

pub row_fields : (ss : List PlainStruct) (fs : List Field) (k : ℕ) → length fs ≤ k → fields_row ss (take k fs) ≡ fields_row ss fs
row_fields ss fs k l = ap (fields_row ss) (take_all k fs l)

pub fields_rest : (ss : List PlainStruct) (fs : List Field) (k : ℕ) → fields_row ss fs ≡ fields_row ss (take k fs) ++ fields_row ss (drop k fs)
fields_rest ss fs k = ap (fields_row ss) (sym (take-append-drop k fs)) ∙ fields_row_append ss (take k fs) (drop k fs)
