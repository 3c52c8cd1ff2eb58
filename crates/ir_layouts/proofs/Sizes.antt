-- What holds of every shape: its alignment is 1, 2 or 4, its cells lie inside it, and it has no more cells than bytes.
use Rattle.std.proofs.Common.{◌≡◌, ℕ, zero, suc, ◌+◌, ◌*◌, ◌<◌, ◌≤◌, max, Bool, true, false, List, [], ◌∷◌, ◌++◌, length, refl, sym, ap, subst, ◌∙◌, arith, bytes_eq, if◌then◌else◌, length-append, zero-add}
use Rattle.std.proofs.Math.Nat.{suc-mul, zero-mul, mul-le-mul_left}
use Rattle.ir_model.specs.Types.{PlainType, U8, U16, U32, Pointer, Array, Named, Callee}
use Rattle.ir_model.specs.Plain.{PlainBinding, PlainStruct}
use Rattle.ir_model.specs.Layout.{CellPlace, Shape, Known, empty, shape, shape_named, shifted, copies, array_of, rounded_up, with_field, laid_out, field_places, known, known_behind}
use Rattle.ir_model.proofs.Counting.{rounded_at_least}

-- each cell begins below an offset
abbrev pub Inside : ℕ → List CellPlace → Type 0
Inside n [] = Unit {0}
Inside n (c ∷ cs) = (c.at < n) × Inside n cs

inside_more : (n m : ℕ) (cs : List CellPlace) → n ≤ m → Inside n cs → Inside m cs
inside_more n m [] l h = tt
inside_more n m (c ∷ cs) l h = (omega (arith, h.0), inside_more n m cs l h.1)

inside_append : (n : ℕ) (xs ys : List CellPlace) → Inside n xs → Inside n ys → Inside n (xs ++ ys)
inside_append n [] ys h g = g
inside_append n (x ∷ xs) ys h g = (h.0, inside_append n xs ys h.1 g)

pub inside_shifted : (d n : ℕ) (cs : List CellPlace) → Inside n cs → Inside (d + n) (shifted d cs)
inside_shifted d n [] h = tt
inside_shifted d n (c ∷ cs) h = (omega (arith, h.0), inside_shifted d n cs h.1)

pub inside_copies : (n at step : ℕ) (cs : List CellPlace) → Inside step cs → Inside (at + n * step) (copies n at step cs)
inside_copies zero at step cs h = tt
inside_copies (suc n) at step cs h =
    let e = suc-mul n step in
    inside_append (at + suc n * step) (shifted at cs) (copies n (at + step) step cs)
    (inside_more (at + step) (at + suc n * step) (shifted at cs) (omega (arith, e)) (inside_shifted at step cs h))
    (inside_more (at + step + n * step) (at + suc n * step) (copies n (at + step) step cs) (omega (arith, e)) (inside_copies n (at + step) step cs h))

pub length_shifted : (d : ℕ) (cs : List CellPlace) → length (shifted d cs) ≡ length cs
length_shifted d [] = refl
length_shifted d (c ∷ cs) = ap suc (length_shifted d cs)

pub length_copies : (n at step : ℕ) (cs : List CellPlace) → length (copies n at step cs) ≡ n * length cs
length_copies zero at step cs = sym (zero-mul (length cs))
length_copies (suc n) at step cs =
    let r = length_copies n (at + step) step cs in
    let s = length_shifted at cs in
    let e = suc-mul n (length cs) in
    length-append (shifted at cs) (copies n (at + step) step cs) ∙ omega (arith, r, s, e)

pub record Good (s : Shape) : Type 0 where
  pub positive : 0 < s.align
  pub most : s.align ≤ 4
  pub inside : Inside s.size s.cells
  pub fewer : length s.cells ≤ s.size

abbrev AllGood : List Known → Type 0
AllGood [] = Unit {0}
AllGood (k ∷ ks) = Good k.shape × AllGood ks

all_more : (ks : List Known) (k : Known) → AllGood ks → Good k.shape → AllGood (ks ++ k ∷ [])
all_more [] k h g = (g, tt)
all_more (j ∷ ks) k h g = (h.0, all_more ks k h.1 g)

pub good_empty : Good empty
good_empty = record { positive = omega arith; most = omega arith; inside = tt; fewer = omega arith }

good_cell : (n : ℕ) (t : PlainType) → 0 < n → n ≤ 4 → Good (record { size = n; align = n; cells = record { at = 0; ty = t } ∷ [] })
good_cell n t p l = record { positive = p; most = l; inside = (p, tt); fewer = omega arith }

good_first : (b : Bool) (s t : Shape) → Good s → Good t → Good (if b then s else t)
good_first true s t g h = g
good_first false s t g h = h

good_named : (ks : List Known) (n : List ℕ) → AllGood ks → Good (shape_named ks n)
good_named [] n h = good_empty
good_named (k ∷ ks) n h = good_first (bytes_eq k.name n) k.shape (shape_named ks n) h.0 (good_named ks n h.1)

good_array : (n : ℕ) (s : Shape) → Good s → Good (array_of n s)
good_array n s g = record {
  positive = g.positive;
  most = g.most;
  inside = subst (λ x. Inside x (copies n 0 s.size s.cells)) (zero-add (n * s.size)) (inside_copies n 0 s.size s.cells g.inside);
  fewer = let e = length_copies n 0 s.size s.cells in let l = mul-le-mul_left {m = length s.cells} {n = s.size} n g.fewer in omega (arith, e, l);
}

good_type : (ks : List Known) (t : PlainType) → AllGood ks → Good (shape ks t)
good_type ks U8 h = good_cell 1 U8 (omega arith) (omega arith)
good_type ks U16 h = good_cell 2 U16 (omega arith) (omega arith)
good_type ks U32 h = good_cell 4 U32 (omega arith) (omega arith)
good_type ks (Pointer t) h = good_cell 4 (Pointer t) (omega arith) (omega arith)
good_type ks (Array n t) h = good_array n (shape ks t) (good_type ks t h)
good_type ks (Named n) h = good_named ks n h
good_type ks (Callee a r) h = good_cell 4 (Callee a r) (omega arith) (omega arith)

good_field : (ks : List Known) (s : Shape) (t : PlainType) → Good s → Good (shape ks t) → Good (with_field ks s t)
good_field ks s t g h =
    let r = rounded_at_least s.size (shape ks t).align h.positive in
    let at : ℕ = rounded_up s.size (shape ks t).align in
    let l = length-append s.cells (shifted at (shape ks t).cells) in
    let e = length_shifted at (shape ks t).cells in
    record {
      positive = omega (arith, g.positive, h.positive);
      most = omega (arith, g.most, h.most);
      inside = inside_append (at + (shape ks t).size) s.cells (shifted at (shape ks t).cells)
          (inside_more s.size (at + (shape ks t).size) s.cells (omega (arith, r)) g.inside)
          (inside_shifted at (shape ks t).size (shape ks t).cells h.inside);
      fewer = omega (arith, l, e, r, g.fewer, h.fewer);
    }

good_fields : (ks : List Known) (s : Shape) (fs : List PlainBinding) → AllGood ks → Good s → Good (laid_out ks s fs)
good_fields ks s [] h g =
    let r = rounded_at_least s.size s.align g.positive in record {
      positive = g.positive;
      most = g.most;
      inside = inside_more s.size (rounded_up s.size s.align) s.cells r g.inside;
      fewer = omega (arith, r, g.fewer);
    }
good_fields ks s (f ∷ fs) h g = good_fields ks (with_field ks s f.ty) fs h (good_field ks s f.ty g (good_type ks f.ty h))

good_behind : (ks : List Known) (ss : List PlainStruct) → AllGood ks → AllGood (known_behind ks ss)
good_behind ks [] h = h
good_behind ks (s ∷ ss) h =
    good_behind (ks ++ record { name = s.name; shape = laid_out ks empty s.fields; fields = field_places ks empty s.fields } ∷ []) ss
    (all_more ks _ h (good_fields ks empty s.fields h good_empty))

-- every type by the structs of a firmware
pub good : (ss : List PlainStruct) (t : PlainType) → Good (shape (known ss) t)
unfolding known
good ss t = good_type (known_behind [] ss) t (good_behind [] ss tt)

-- fields behind what is laid out take no bytes away
size_grows_by : (ks : List Known) (s : Shape) (fs : List PlainBinding) → AllGood ks → 0 < s.align → s.size ≤ (laid_out ks s fs).size
size_grows_by ks s [] h p = rounded_at_least s.size s.align p
size_grows_by ks s (f ∷ fs) h p =
    let g = good_type ks f.ty h in
    let r = rounded_at_least s.size (shape ks f.ty).align g.positive in
    let q : 0 < max s.align (shape ks f.ty).align = omega arith in
    let more = size_grows_by ks (with_field ks s f.ty) fs h q in
    omega (arith, r, more)

pub size_grows : (ss : List PlainStruct) (s : Shape) (fs : List PlainBinding) → 0 < s.align → s.size ≤ (laid_out (known ss) s fs).size
unfolding known
size_grows ss s fs p = size_grows_by (known_behind [] ss) s fs (good_behind [] ss tt) p
