-- The cell of a number of a type.
use Rattle.std.proofs.Common.{◌≡◌, ℕ, zero, suc, ◌+◌, ◌-◌, ◌*◌, ◌/◌, ◌%◌, ◌^◌, ◌<◌, ◌≤◌, ◌⊎◌, inl, inr, List, [], ◌∷◌, ◌++◌, map, take, get_or, length, refl, sym, ap, subst, ◌∙◌, arith, Option, Some, option_map, MatchOption, length-append, zero-add}
use Rattle.std.specs.List.{slice_get}
use Rattle.std.specs.List.Sorted.{IsNonDecreasingBy}
use Rattle.std.proofs.lemmas.Bool.{cases_lt}
use Rattle.std.proofs.lemmas.List.{length-map, take_all, get_or-map}
use Rattle.std.proofs.lemmas.Nat.{div-add-mod'}
use Rattle.std.proofs.Math.Nat.{suc-mul, zero-mul}
use Rattle.std.proofs.lemmas.Option.{slice_get_within}
use Rattle.ir_model.specs.declared.extent.TheConstants.{SIZE_LIMIT}
use Rattle.ir_model.specs.declared.firmware.StructDecl.{StructDecl}
use Rattle.ir_model.specs.Types.{PlainType, Array, Named, type_of}
use Rattle.ir_model.specs.Plain.{PlainBinding, PlainStruct, struct_of}
use Rattle.ir_model.specs.Layout.{CellPlace, FieldPlace, Shape, Known, empty, shape, shifted, copies, array_of, with_field, laid_out, field_places, known}
use Rattle.ir_model.proofs.Counting.{many_at_least}
use Rattle.ir_layouts.specs.declared.measure.Measure.{Measure}
use Rattle.ir_cells.specs.declared.spot.CellSpot.{CellSpot}
use Rattle.ir_layouts.specs.declared.struct_layout.Field.{Field}
use Rattle.ir_layouts.specs.declared.struct_layout.StructLayout.{StructLayout}
use Rattle.ir_cells.specs.Cells.{cell_of}
use Rattle.ir_layouts.specs.Fields.{place_of}
use Rattle.ir_layouts.specs.Measures.{capped, IsMeasure}
use Rattle.ir_layouts.specs.Tables.{IsLaid, IsPlaceBelow}
use Rattle.ir_cells.specs.Halving.{IsFirstAbove, IsLastWithin}
use Rattle.ir_layouts.proofs.Sizes.{Inside, good, length_shifted, length_copies, size_grows}
use Rattle.ir_layouts.proofs.Capped.{capped_small, capped_large}
use Rattle.ir_cells.proofs.Fields.{fields_cells}
use Rattle.ir_cells.proofs.Structs.{places, struct_cells, first_cell_at}
use Rattle.ir_cells.proofs.Walks.{named_shape}

abbrev pub moved : ℕ → CellPlace → CellPlace
moved d c = record { at = d + c.at; ty = c.ty }

nth_shifted : (d : ℕ) (cs : List CellPlace) (k : ℕ) → slice_get (shifted d cs) k ≡ option_map (moved d) (slice_get cs k)
nth_shifted d [] k = refl
nth_shifted d (c ∷ cs) zero = refl
nth_shifted d (c ∷ cs) (suc k) = nth_shifted d cs k

nth_left : (xs ys : List CellPlace) (k : ℕ) → k < length xs → slice_get (xs ++ ys) k ≡ slice_get xs k
nth_left [] ys k l = absurd (omega arith)
nth_left (x ∷ xs) ys zero l = refl
nth_left (x ∷ xs) ys (suc k) l = nth_left xs ys k (omega arith)

nth_right : (xs ys : List CellPlace) (k j : ℕ) → k ≡ length xs + j → slice_get (xs ++ ys) k ≡ slice_get ys j
nth_right [] ys k j e = ap (slice_get ys) (e ∙ zero-add j)
nth_right (x ∷ xs) ys zero j e = absurd (omega arith)
nth_right (x ∷ xs) ys (suc k) j e = nth_right xs ys k j (omega arith)

inside_nth : (n : ℕ) (cs : List CellPlace) (k : ℕ) (c : CellPlace) → Inside n cs → slice_get cs k ≡ Some c → c.at < n
inside_nth n [] k c h e = cc
inside_nth n (x ∷ cs) zero c h e = let q : x ≡ c = cc in subst (λ (y : CellPlace). y.at < n) q h.0
inside_nth n (x ∷ cs) (suc k) c h e = inside_nth n cs k c h.1 e

nth_copies : (n place at step rest k : ℕ) (cs : List CellPlace) (c : CellPlace) → place < n → slice_get cs rest ≡ Some c → k ≡ place * length cs + rest
    → slice_get (copies n at step cs) k ≡ Some (moved (at + place * step) c)
nth_copies zero place at step rest k cs c l e q = absurd (omega arith)
nth_copies (suc n) zero at step rest k cs c l e q =
    let z = zero-mul (length cs) in
    let y = zero-mul step in
    let j : k ≡ rest = omega (arith, q, z) in
    let b = slice_get_within cs rest c e in
    let s = length_shifted at cs in
    let d : at ≡ at + 0 * step = omega (arith, y) in
    nth_left (shifted at cs) (copies n (at + step) step cs) k (omega (arith, s, b, j))
    ∙ (ap (slice_get (shifted at cs)) j ∙ (nth_shifted at cs rest ∙ (ap (option_map (moved at)) e ∙ ap (λ x. Some (moved x c)) d)))
nth_copies (suc n) (suc place) at step rest k cs c l e q =
    let m = suc-mul place (length cs) in
    let w = suc-mul place step in
    let s = length_shifted at cs in
    let d : at + step + place * step ≡ at + suc place * step = omega (arith, w) in
    nth_right (shifted at cs) (copies n (at + step) step cs) k (place * length cs + rest) (omega (arith, q, m, s))
    ∙ (nth_copies n place (at + step) step rest (place * length cs + rest) cs c (omega arith) e refl ∙ ap (λ x. Some (moved x c)) d)

-- the cell of a number, or too few cells
abbrev pub IsNth : List CellPlace → ℕ → Option CellSpot → Type 0
IsNth cs k r = MatchOption r (length cs ≤ k) (λ c. slice_get cs k ≡ Some (cell_of c))

uncapped : (n m : ℕ) → m ≡ capped n → n ≤ SIZE_LIMIT → m ≡ n
uncapped n m e l = omega (arith, e)

pub zero_cells : (n m : ℕ) → m ≡ capped n → m ≡ 0 → n ≡ 0
zero_cells n m e z = by_size (cases_lt n (2 ^ 32))
  where
    by_size : (n < 2 ^ 32) ⊎ (2 ^ 32 ≤ n) → n ≡ 0
    by_size (inl l) = let q = capped_small n (omega arith) in omega (arith, e, z, q)
    by_size (inr l) = let q = capped_large n l in let f : m ≡ 2 ^ 32 = e ∙ q in absurd (omega (arith, f, z))

-- arrays: an element without cells, a number behind the last, and an element's cell
pub nth_no_cells : (ss : List PlainStruct) (u t : PlainType) (n k : ℕ) (m : Measure) → u ≡ Array n t → IsMeasure m (shape (known ss) t) → m.cells ≡ 0 → length (shape (known ss) u).cells ≤ k
nth_no_cells ss u t n k m e h z =
    let s : Shape = shape (known ss) t in
    let c = length_copies n 0 s.size s.cells in
    let p : length s.cells ≡ 0 = zero_cells (length s.cells) m.cells h.1.1 z in
    let q : n * length s.cells ≡ 0 = ap (λ x. n * x) p ∙ omega arith in
    let v : length (shape (known ss) u).cells ≡ length (array_of n s).cells = ap (λ x. length (shape (known ss) x).cells) e in
    omega (arith, c, q, v)

below_product : (n place len k : ℕ) → n ≤ place → place * len ≤ k → n * len ≤ k
below_product n place len k l m = grind arith

pub nth_behind : (ss : List PlainStruct) (u t : PlainType) (n k : ℕ) (m : Measure) → u ≡ Array n t → IsMeasure m (shape (known ss) t) → (shape (known ss) u).size ≤ SIZE_LIMIT → (m.cells ≡ 0 → ⊥)
    → n ≤ k / m.cells → length (shape (known ss) u).cells ≤ k
nth_behind ss u t n k m e h b z l = by_count (cases_lt 0 n)
  where
    by_count : (0 < n) ⊎ (n ≤ 0) → length (shape (known ss) u).cells ≤ k
    by_count (inl p) =
        let s : Shape = shape (known ss) t in
        let g = good ss t in
        let c = length_copies n 0 s.size s.cells in
        let v : length (shape (known ss) u).cells ≡ length (array_of n s).cells = ap (λ x. length (shape (known ss) x).cells) e in
        let w : (shape (known ss) u).size ≡ n * s.size = ap (λ x. (shape (known ss) x).size) e in
        let r = many_at_least n s.size p in
        let q : m.cells ≡ length s.cells = uncapped (length s.cells) m.cells h.1.1 (omega (arith, g.fewer, r, w, b)) in
        let d = div-add-mod' k m.cells in
        let x = below_product n (k / m.cells) m.cells k l (omega (arith, d)) in
        let y : n * m.cells ≡ n * length s.cells = ap (λ x. n * x) q in
        omega (arith, c, v, x, y)
    by_count (inr p) =
        let s : Shape = shape (known ss) t in
        let c = length_copies n 0 s.size s.cells in
        let o : n ≡ 0 = omega arith in
        let q : n * length s.cells ≡ 0 = ap (λ x. x * length s.cells) o ∙ zero-mul (length s.cells) in
        let v : length (shape (known ss) u).cells ≡ length (array_of n s).cells = ap (λ x. length (shape (known ss) x).cells) e in
        omega (arith, c, q, v)

next_multiple : (p n s : ℕ) → p < n → p * s + s ≤ n * s
next_multiple p n s l = let e = suc-mul p s in let m : suc p * s ≤ n * s = grind arith in omega (arith, e, m)

pub record ElementCell (ss : List PlainStruct) (u t : PlainType) (k place rest : ℕ) (m : Measure) (c : CellSpot) : Type 0 where
  pub nth : slice_get (shape (known ss) u).cells k ≡ Some (moved (place * m.size) (cell_of c))
  pub small : place * m.size + c.at < 2 ^ 32
  pub start : place * m.size < 2 ^ 32

pub nth_element : (ss : List PlainStruct) (u t : PlainType) (n k : ℕ) (m : Measure) (c : CellSpot) → u ≡ Array n t → IsMeasure m (shape (known ss) t) → (shape (known ss) u).size ≤ SIZE_LIMIT
    → k / m.cells < n → slice_get (shape (known ss) t).cells (k % m.cells) ≡ Some (cell_of c) → (m.cells ≡ 0 → ⊥) → ElementCell ss u t k (k / m.cells) (k % m.cells) m c
nth_element ss u t n k m c e h b l g z =
    let s : Shape = shape (known ss) t in
    let good_s = good ss t in
    let w : (shape (known ss) u).size ≡ n * s.size = ap (λ x. (shape (known ss) x).size) e in
    let r = many_at_least n s.size (omega arith) in
    let q : m.cells ≡ length s.cells = uncapped (length s.cells) m.cells h.1.1 (omega (arith, good_s.fewer, r, w, b)) in
    let qs : m.size ≡ s.size = uncapped s.size m.size h.0 (omega (arith, r, w, b)) in
    let d = div-add-mod' k m.cells in
    let i : c.at < s.size = inside_nth s.size s.cells (k % m.cells) (cell_of c) good_s.inside g in
    let x = next_multiple (k / m.cells) n s.size l in
    let y : k / m.cells * m.size ≡ k / m.cells * s.size = ap (λ x. k / m.cells * x) qs in
    let v : k / m.cells * m.cells ≡ k / m.cells * length s.cells = ap (λ x. k / m.cells * x) q in
    let o : 0 + k / m.cells * s.size ≡ k / m.cells * m.size = omega (arith, y) in
    record {
      nth = ap (λ x. slice_get (shape (known ss) x).cells k) e
          ∙ (nth_copies n (k / m.cells) 0 s.size (k % m.cells) k s.cells (cell_of c) l g (omega (arith, d, v))
          ∙ ap (λ x. Some (moved x (cell_of c))) o);
      small = omega (arith, i, x, y, w, b);
      start = omega (arith, i, x, y, w, b);
    }

-- structs
fields_few : (ks : List Known) (ps : List FieldPlace) (i j : ℕ) → i ≤ j → length (fields_cells ks (take i ps)) ≤ length (fields_cells ks (take j ps))
fields_few ks [] zero zero l = omega arith
fields_few ks [] zero (suc j) l = omega arith
fields_few ks [] (suc i) zero l = absurd (omega arith)
fields_few ks [] (suc i) (suc j) l = omega arith
fields_few ks (p ∷ ps) zero j l = omega arith
fields_few ks (p ∷ ps) (suc i) zero l = absurd (omega arith)
fields_few ks (p ∷ ps) (suc i) (suc j) l =
    let r = fields_few ks ps i j (omega arith) in
    let a = length-append (shifted p.at (shape ks p.ty).cells) (fields_cells ks (take i ps)) in
    let b = length-append (shifted p.at (shape ks p.ty).cells) (fields_cells ks (take j ps)) in
    omega (arith, r, a, b)

fields_sum : (ks : List Known) (ps : List FieldPlace) (j : ℕ) (d : FieldPlace) → j < length ps
    → length (fields_cells ks (take (suc j) ps)) ≡ length (fields_cells ks (take j ps)) + length (shape ks (get_or ps j d).ty).cells
fields_sum ks [] j d l = absurd (omega arith)
fields_sum ks (p ∷ ps) zero d l =
    let a = length-append (shifted p.at (shape ks p.ty).cells) [] in
    let b = length_shifted p.at (shape ks p.ty).cells in
    let c : length (fields_cells ks (take 1 (p ∷ ps))) ≡ length (shifted p.at (shape ks p.ty).cells ++ []) = refl in
    omega (arith, a, b, c)
fields_sum ks (p ∷ ps) (suc j) d l =
    let r = fields_sum ks ps j d (omega arith) in
    let a = length-append (shifted p.at (shape ks p.ty).cells) (fields_cells ks (take (suc j) ps)) in
    let b = length-append (shifted p.at (shape ks p.ty).cells) (fields_cells ks (take j ps)) in
    omega (arith, r, a, b)

nth_in_field : (ks : List Known) (ps : List FieldPlace) (j k rest : ℕ) (d : FieldPlace) (c : CellPlace) → j < length ps → slice_get (shape ks (get_or ps j d).ty).cells rest ≡ Some c
    → k ≡ length (fields_cells ks (take j ps)) + rest → slice_get (fields_cells ks ps) k ≡ Some (moved (get_or ps j d).at c)
nth_in_field ks [] j k rest d c l g e = absurd (omega arith)
nth_in_field ks (p ∷ ps) zero k rest d c l g e =
    let q : k ≡ rest = e ∙ zero-add rest in
    let b = slice_get_within (shape ks p.ty).cells rest c g in
    let s = length_shifted p.at (shape ks p.ty).cells in
    nth_left (shifted p.at (shape ks p.ty).cells) (fields_cells ks ps) k (omega (arith, b, s, q))
    ∙ (ap (slice_get (shifted p.at (shape ks p.ty).cells)) q ∙ (nth_shifted p.at (shape ks p.ty).cells rest ∙ ap (option_map (moved p.at)) g))
nth_in_field ks (p ∷ ps) (suc j) k rest d c l g e =
    let a = length-append (shifted p.at (shape ks p.ty).cells) (fields_cells ks (take j ps)) in
    nth_right (shifted p.at (shape ks p.ty).cells) (fields_cells ks ps) k (length (fields_cells ks (take j ps)) + rest) (omega (arith, e, a))
    ∙ nth_in_field ks ps j (length (fields_cells ks (take j ps)) + rest) rest d c (omega arith) g refl

field_ends : (ss : List PlainStruct) (s : Shape) (fs : List PlainBinding) (j : ℕ) (d : FieldPlace) → 0 < s.align → j < length (field_places (known ss) s fs)
    → (get_or (field_places (known ss) s fs) j d).at + (shape (known ss) (get_or (field_places (known ss) s fs) j d).ty).size ≤ (laid_out (known ss) s fs).size
field_ends ss s [] j d p l = absurd (omega arith)
field_ends ss s (f ∷ fs) zero d p l =
    let g = good ss f.ty in size_grows ss (with_field (known ss) s f.ty) fs (omega (arith, g.positive))
field_ends ss s (f ∷ fs) (suc j) d p l =
    let g = good ss f.ty in field_ends ss (with_field (known ss) s f.ty) fs j d (omega (arith, g.positive)) (omega arith)

pub firsts_rise : (ss : List PlainStruct) (l : StructLayout) → IsLaid ss l → IsNonDecreasingBy (λ (f : Field). f.first_cell) l.fields.items
firsts_rise ss l h = λ i j d m n.
    let p = first_cell_at ss l i d h (omega arith) in
    let q = first_cell_at ss l j d h n in
    let r = fields_few (known ss) (places l) i j m in
    omega (arith, p, q, r)

nothing_first : (ss : List PlainStruct) (l : StructLayout) (fs : List Field) (k : ℕ) → IsLaid ss l → l.fields.items ≡ fs → IsFirstAbove (λ (f : Field). f.first_cell) l.fields.items k 0
    → length (fields_cells (known ss) (map place_of fs)) ≤ k
nothing_first ss l [] k h e w = omega arith
nothing_first ss l (f ∷ fs) k h e w =
    let n : length l.fields.items ≡ suc (length fs) = ap length e in
    let p = first_cell_at ss l 0 f h (omega (arith, n)) in
    let q = w 0 f (omega arith) (omega (arith, n)) in
    absurd (omega (arith, p, q))

pub nth_before : (ss : List StructDecl) (b : ℕ) (u : PlainType) (n : List ℕ) (k : ℕ) (l : StructLayout) (number : ℕ) → u ≡ Named n → IsPlaceBelow ss b n k → slice_get ss k ≡ Some l.declaration.now
    → IsLaid (map struct_of (take k ss)) l → IsFirstAbove (λ (f : Field). f.first_cell) l.fields.items number 0 → length (shape (known (map struct_of (take b ss))) u).cells ≤ number
nth_before ss b u n k l number e p g h w =
    let a = nothing_first (map struct_of (take k ss)) l l.fields.items number h refl w in
    let c : length (shape (known (map struct_of (take b ss))) u).cells ≡ length (fields_cells (known (map struct_of (take k ss))) (places l)) =
    ap (λ (s : Shape). length s.cells) (named_shape ss b u n k l e p g) ∙ ap length (struct_cells (map struct_of (take k ss)) l h) in
    omega (arith, a, c)

-- what a field's place is among the places
at_place : (l : StructLayout) (j : ℕ) (f : Field) → j < length l.fields.items → f ≡ get_or l.fields.items j f → get_or (places l) j (place_of f) ≡ place_of f
at_place l j f m e = get_or-map place_of l.fields.items j f (place_of f) m ∙ ap place_of (sym e)

first_of : (ss : List PlainStruct) (l : StructLayout) (j : ℕ) (f : Field) → IsLaid ss l → j < length l.fields.items → f ≡ get_or l.fields.items j f → f.first_cell ≡ length (fields_cells (known ss) (take j (places l)))
first_of ss l j f h m e = ap (λ (x : Field). x.first_cell) e ∙ first_cell_at ss l j f h m

pub nth_field_none : (ss : List StructDecl) (b : ℕ) (u : PlainType) (n : List ℕ) (k : ℕ) (l : StructLayout) (j number : ℕ) (f : Field) → u ≡ Named n → IsPlaceBelow ss b n k → slice_get ss k ≡ Some l.declaration.now
    → IsLaid (map struct_of (take k ss)) l → IsLastWithin (λ (f : Field). f.first_cell) l.fields.items number j → f ≡ get_or l.fields.items j f
    → length (shape (known (map struct_of (take k ss))) (type_of f.ty.now)).cells ≤ number - f.first_cell → length (shape (known (map struct_of (take b ss))) u).cells ≤ number
nth_field_none ss b u n k l j number f e p g h w i m = by_next (cases_lt (suc j) (length l.fields.items))
  where
    by_next : (suc j < length l.fields.items) ⊎ (length l.fields.items ≤ suc j) → length (shape (known (map struct_of (take b ss))) u).cells ≤ number
    by_next (inl x) =
        let q = at_place l j f w.0 i in
        let within : f.first_cell ≤ number = subst (λ (x : Field). x.first_cell ≤ number) (sym i) (w.1 f) in
        let v = w.2 (suc j) f (omega arith) x in
        let r = first_cell_at (map struct_of (take k ss)) l (suc j) f h x in
        let o = first_of (map struct_of (take k ss)) l j f h w.0 i in
        let c = length-map l.fields.items place_of in
        let s = fields_sum (known (map struct_of (take k ss))) (places l) j (place_of f) (omega (arith, c, w.0)) in
        let t : length (shape (known (map struct_of (take k ss))) (get_or (places l) j (place_of f)).ty).cells ≡ length (shape (known (map struct_of (take k ss))) (type_of f.ty.now)).cells =
        ap (λ (y : FieldPlace). length (shape (known (map struct_of (take k ss))) y.ty).cells) q in
        absurd (omega (arith, v, r, o, s, t, m, within))
    by_next (inr x) =
        let q = at_place l j f w.0 i in
        let within : f.first_cell ≤ number = subst (λ (x : Field). x.first_cell ≤ number) (sym i) (w.1 f) in
        let o = first_of (map struct_of (take k ss)) l j f h w.0 i in
        let c = length-map l.fields.items place_of in
        let s = fields_sum (known (map struct_of (take k ss))) (places l) j (place_of f) (omega (arith, c, w.0)) in
        let t : length (shape (known (map struct_of (take k ss))) (get_or (places l) j (place_of f)).ty).cells ≡ length (shape (known (map struct_of (take k ss))) (type_of f.ty.now)).cells =
        ap (λ (y : FieldPlace). length (shape (known (map struct_of (take k ss))) y.ty).cells) q in
        let all : length (fields_cells (known (map struct_of (take k ss))) (take (suc j) (places l))) ≡ length (fields_cells (known (map struct_of (take k ss))) (places l)) =
        ap (λ ys. length (fields_cells (known (map struct_of (take k ss))) ys)) (take_all (suc j) (places l) (omega (arith, c, x))) in
        let z : length (shape (known (map struct_of (take b ss))) u).cells ≡ length (fields_cells (known (map struct_of (take k ss))) (places l)) =
        ap (λ (s : Shape). length s.cells) (named_shape ss b u n k l e p g) ∙ ap length (struct_cells (map struct_of (take k ss)) l h) in
        omega (arith, o, s, t, m, within, all, z)

pub nth_field : (ss : List StructDecl) (b : ℕ) (u : PlainType) (n : List ℕ) (k : ℕ) (l : StructLayout) (j number : ℕ) (f : Field) (c : CellSpot) → u ≡ Named n → IsPlaceBelow ss b n k → slice_get ss k ≡ Some l.declaration.now
    → IsLaid (map struct_of (take k ss)) l → IsLastWithin (λ (f : Field). f.first_cell) l.fields.items number j → f ≡ get_or l.fields.items j f
    → slice_get (shape (known (map struct_of (take k ss))) (type_of f.ty.now)).cells (number - f.first_cell) ≡ Some (cell_of c)
    → slice_get (shape (known (map struct_of (take b ss))) u).cells number ≡ Some (moved f.at (cell_of c))
nth_field ss b u n k l j number f c e p g h w i m =
    let q = at_place l j f w.0 i in
    let within : f.first_cell ≤ number = subst (λ (x : Field). x.first_cell ≤ number) (sym i) (w.1 f) in
    let o = first_of (map struct_of (take k ss)) l j f h w.0 i in
    let x = length-map l.fields.items place_of in
    let t : slice_get (shape (known (map struct_of (take k ss))) (get_or (places l) j (place_of f)).ty).cells (number - f.first_cell) ≡ Some (cell_of c) =
    ap (λ (y : FieldPlace). slice_get (shape (known (map struct_of (take k ss))) y.ty).cells (number - f.first_cell)) q ∙ m in
    ap (λ (s : Shape). slice_get s.cells number) (named_shape ss b u n k l e p g)
    ∙ (ap (λ cs. slice_get cs number) (struct_cells (map struct_of (take k ss)) l h)
    ∙ (nth_in_field (known (map struct_of (take k ss))) (places l) j number (number - f.first_cell) (place_of f) (cell_of c) (omega (arith, x, w.0)) t (omega (arith, o, within))
    ∙ ap (λ (y : FieldPlace). Some (moved y.at (cell_of c))) q))

-- a field ends within its struct
pub field_within : (ss : List PlainStruct) (l : StructLayout) (j : ℕ) (f : Field) → IsLaid ss l → j < length l.fields.items → f ≡ get_or l.fields.items j f → f.at + (shape (known ss) (type_of f.ty.now)).size ≤ SIZE_LIMIT
field_within ss l j f h m e =
    let c : length l.fields.items ≡ length (field_places (known ss) empty (struct_of l.declaration.now).fields) = sym (length-map l.fields.items place_of) ∙ ap length h.fields in
    let r = field_ends ss empty (struct_of l.declaration.now).fields j (place_of f) (omega arith) (omega (arith, c)) in
    let q : get_or (field_places (known ss) empty (struct_of l.declaration.now).fields) j (place_of f) ≡ place_of f = ap (λ ps. get_or ps j (place_of f)) (sym h.fields) ∙ at_place l j f m e in
    let s = subst (λ (x : FieldPlace). x.at + (shape (known ss) x.ty).size ≤ (laid_out (known ss) empty (struct_of l.declaration.now).fields).size) q r in
    let z = h.size in
    omega (arith, s, z, h.small)

pub field_cell_fits : (ss : List PlainStruct) (l : StructLayout) (j k : ℕ) (f : Field) (c : CellSpot) → IsLaid ss l → j < length l.fields.items → f ≡ get_or l.fields.items j f
    → slice_get (shape (known ss) (type_of f.ty.now)).cells k ≡ Some (cell_of c) → f.at + c.at < 2 ^ 32
field_cell_fits ss l j k f c h m e g =
    let r = field_within ss l j f h m e in
    let i : c.at < (shape (known ss) (type_of f.ty.now)).size = inside_nth (shape (known ss) (type_of f.ty.now)).size (shape (known ss) (type_of f.ty.now)).cells k (cell_of c) (good ss (type_of f.ty.now)).inside g in
    omega (arith, r, i)
