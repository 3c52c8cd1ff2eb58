-- Each cell lies at a multiple of its width, and is of an integer, a pointer or a function.
use Rattle.std.proofs.Common.{◌≡◌, ℕ, zero, suc, ◌+◌, ◌-◌, ◌*◌, ◌/◌, Bool, true, false, ◌&&◌, List, [], ◌∷◌, ◌++◌, Option, Some, None, nat_eq, refl, sym, subst, get_or, map, arith, max}
use Rattle.std.specs.Prelude.{bytes_eq, if◌then◌else◌}
use Rattle.std.proofs.lemmas.Bool.{eqb-true, and_parts}
use Rattle.ir_model.specs.Types.{PlainType, U8, U16, U32, Pointer, Array, Named, Callee, same, width_of}
use Rattle.ir_model.specs.Plain.{PlainBinding, PlainStruct, PlainGlobal, PlainFunc, PlainFirmware, funcs_of}
use Rattle.ir_model.specs.Layout.{CellPlace, Shape, Known, shape, shape_named, empty, shifted, copies, one_cell, rounded_up, with_field, laid_out, field_places, with_struct, known_behind, known, cell_at, one_later}
use Rattle.ir_model.specs.Resolved.{no_func, no_global}
use Rattle.ir_model.specs.Resolve.{scope_of, resolved_func, resolved_global, resolve}
use Rattle.ir_model.proofs.SameTypes.{same_sound}
use Rattle.base_laws.proofs.Multiples.{IsMultiple, none as nothing_at, through, both, no_rest}
use Rattle.ir_model.specs.Signatures.{cell_in}
use Rattle.ir_laws.specs.Typed.{IsCellType}
use Rattle.ir_laws.specs.Cells.{IsCell, AreCells, HasCells, IsFound}

-- the widths of cells, which are the alignments of types
pub data Small : ℕ → Type 0 where
  one_byte : Small 1
  two_bytes : Small 2
  four_bytes : Small 4

divides_max_left : (a b : ℕ) → Small a → Small b → IsMultiple a (max a b)
divides_max_left a b one_byte one_byte = record { times = 1; is = refl }
divides_max_left a b one_byte two_bytes = record { times = 2; is = refl }
divides_max_left a b one_byte four_bytes = record { times = 4; is = refl }
divides_max_left a b two_bytes one_byte = record { times = 1; is = refl }
divides_max_left a b two_bytes two_bytes = record { times = 1; is = refl }
divides_max_left a b two_bytes four_bytes = record { times = 2; is = refl }
divides_max_left a b four_bytes one_byte = record { times = 1; is = refl }
divides_max_left a b four_bytes two_bytes = record { times = 1; is = refl }
divides_max_left a b four_bytes four_bytes = record { times = 1; is = refl }

divides_max_right : (a b : ℕ) → Small a → Small b → IsMultiple b (max a b)
divides_max_right a b one_byte one_byte = record { times = 1; is = refl }
divides_max_right a b one_byte two_bytes = record { times = 1; is = refl }
divides_max_right a b one_byte four_bytes = record { times = 1; is = refl }
divides_max_right a b two_bytes one_byte = record { times = 2; is = refl }
divides_max_right a b two_bytes two_bytes = record { times = 1; is = refl }
divides_max_right a b two_bytes four_bytes = record { times = 1; is = refl }
divides_max_right a b four_bytes one_byte = record { times = 4; is = refl }
divides_max_right a b four_bytes two_bytes = record { times = 2; is = refl }
divides_max_right a b four_bytes four_bytes = record { times = 1; is = refl }

max_small : (a b : ℕ) → Small a → Small b → Small (max a b)
max_small a b one_byte one_byte = one_byte
max_small a b one_byte two_bytes = two_bytes
max_small a b one_byte four_bytes = four_bytes
max_small a b two_bytes one_byte = two_bytes
max_small a b two_bytes two_bytes = two_bytes
max_small a b two_bytes four_bytes = four_bytes
max_small a b four_bytes one_byte = four_bytes
max_small a b four_bytes two_bytes = four_bytes
max_small a b four_bytes four_bytes = four_bytes

-- cells whose widths divide an alignment and their offsets
pub data Aligned (a : ℕ) : List CellPlace → Type 0 where
  none : Aligned a []
  more : {c : CellPlace} {cs : List CellPlace} → IsCellType c.ty → IsMultiple (width_of c.ty) a → IsMultiple (width_of c.ty) c.at → Aligned a cs → Aligned a (c ∷ cs)

wider : (a b : ℕ) (cs : List CellPlace) → IsMultiple a b → Aligned a cs → Aligned b cs
wider a b cs d none = none
wider a b cs d (more {c = c} i e f h) = more i (through (width_of c.ty) a b e d) f (wider a b _ d h)

moved : (a d : ℕ) (cs : List CellPlace) → IsMultiple a d → Aligned a cs → Aligned a (shifted d cs)
moved a d cs e none = none
moved a d cs e (more {c = c} i f g h) = more i f (both (width_of c.ty) d c.at (through (width_of c.ty) a d f e) g) (moved a d _ e h)

joined : (a : ℕ) (cs ds : List CellPlace) → Aligned a cs → Aligned a ds → Aligned a (cs ++ ds)
joined a cs ds none k = k
joined a cs ds (more i f g h) k = more i f g (joined a _ ds h k)

copied : (a n at step : ℕ) (cs : List CellPlace) → IsMultiple a at → IsMultiple a step → Aligned a cs → Aligned a (copies n at step cs)
copied a zero at step cs d e h = none
copied a (suc n) at step cs d e h = joined a (shifted at cs) (copies n (at + step) step cs) (moved a at cs d h) (copied a n (at + step) step cs (both a at step d e) e h)

-- a shape whose cells are aligned, and one that is a multiple of its alignment too
pub record Fair (s : Shape) : Type 0 where
  pub small : Small s.align
  pub cells : Aligned s.align s.cells

pub record Whole (s : Shape) : Type 0 where
  pub fair : Fair s
  pub size : IsMultiple s.align s.size

itself : (a : ℕ) → IsMultiple a a
itself a = record { times = 1; is = omega arith }

up_divides : (n a : ℕ) → IsMultiple a (rounded_up n a)
up_divides n a = record { times = (n + (a - 1)) / a; is = refl }

abbrev AllWhole : List Known → Type 0
AllWhole [] = Unit {0}
AllWhole (k ∷ ks) = Whole k.shape × AllWhole ks

named_whole : (ks : List Known) (n : List ℕ) → AllWhole ks → Whole (shape_named ks n)
named_whole [] n h = record { fair = record { small = one_byte; cells = none }; size = record { times = 0; is = refl } }
named_whole (k ∷ ks) n h = pick (bytes_eq k.name n) (named_whole ks n h.1)
  where
    pick : (b : Bool) → Whole (shape_named ks n) → Whole (if b then k.shape else shape_named ks n)
    pick true g = h.0
    pick false g = g

one_whole : (w : ℕ) (t : PlainType) → IsCellType t → Small w → width_of t ≡ w → Whole (one_cell w t)
one_whole w t i s e = record { fair = record { small = s; cells = more i (subst (λ x. IsMultiple x w) (sym e) (itself w)) (nothing_at (width_of t)) none }; size = itself w }

shape_whole : (ks : List Known) (t : PlainType) → AllWhole ks → Whole (shape ks t)
shape_whole ks U8 h = one_whole 1 U8 refl one_byte refl
shape_whole ks U16 h = one_whole 2 U16 refl two_bytes refl
shape_whole ks U32 h = one_whole 4 U32 refl four_bytes refl
shape_whole ks (Pointer t) h = one_whole 4 (Pointer t) refl four_bytes refl
shape_whole ks (Array n t) h = let g = shape_whole ks t h in record { fair = record { small = g.fair.small; cells = copied (shape ks t).align n 0 (shape ks t).size (shape ks t).cells (nothing_at _) g.size g.fair.cells }; size = through (shape ks t).align (shape ks t).size (n * (shape ks t).size) g.size (record { times = n; is = refl }) }
shape_whole ks (Named n) h = named_whole ks n h
shape_whole ks (Callee a r) h = one_whole 4 (Callee a r) refl four_bytes refl

after_fair : (ks : List Known) (s : Shape) (t : PlainType) → AllWhole ks → Fair s → Fair (with_field ks s t)
after_fair ks s t h g = let u = shape_whole ks t h in let a = s.align in let b = (shape ks t).align in record {
  small = max_small s.align (shape ks t).align g.small u.fair.small;
  cells = joined (max s.align (shape ks t).align) s.cells (shifted (rounded_up s.size (shape ks t).align) (shape ks t).cells)
      (wider s.align (max s.align (shape ks t).align) s.cells (divides_max_left s.align (shape ks t).align g.small u.fair.small) g.cells)
      (wider (shape ks t).align (max s.align (shape ks t).align) (shifted (rounded_up s.size (shape ks t).align) (shape ks t).cells) (divides_max_right s.align (shape ks t).align g.small u.fair.small) (moved (shape ks t).align (rounded_up s.size (shape ks t).align) (shape ks t).cells (up_divides s.size (shape ks t).align) u.fair.cells));
}

laid_whole : (ks : List Known) (s : Shape) (fs : List PlainBinding) → AllWhole ks → Fair s → Whole (laid_out ks s fs)
laid_whole ks s [] h g = record { fair = record { small = g.small; cells = g.cells }; size = up_divides s.size s.align }
laid_whole ks s (f ∷ fs) h g = laid_whole ks (with_field ks s f.ty) fs h (after_fair ks s f.ty h g)

whole_more : (ks : List Known) (k : Known) → AllWhole ks → Whole k.shape → AllWhole (ks ++ k ∷ [])
whole_more [] k h g = (g, tt)
whole_more (j ∷ ks) k h g = (h.0, whole_more ks k h.1 g)

whole_structs : (ks : List Known) (ss : List PlainStruct) → AllWhole ks → AllWhole (known_behind ks ss)
whole_structs ks [] h = h
whole_structs ks (s ∷ ss) h =
    whole_structs (with_struct ks s) ss
    (whole_more ks (record { name = s.name; shape = laid_out ks empty s.fields; fields = field_places ks empty s.fields }) h (laid_whole ks empty s.fields h (record { small = one_byte; cells = none })))

pub whole_type : (ss : List PlainStruct) (t : PlainType) → Whole (shape (known ss) t)
unfolding known
whole_type ss t = shape_whole (known_behind [] ss) t (whole_structs [] ss tt)

-- ---- the cells of a program

aligned_in : (a : ℕ) (cs : List CellPlace) (k : ℕ) → Aligned a cs → IsCell (cell_in cs k)
aligned_in a [] k h = record { aligned = refl; kind = refl }
aligned_in a (c ∷ cs) zero (more i d e h) = record { aligned = no_rest (width_of c.ty) c.at e; kind = i }
aligned_in a (c ∷ cs) (suc k) (more i d e h) = aligned_in a cs k h

type_cells : (ss : List PlainStruct) (t : PlainType) → AreCells (shape (known ss) t).cells
type_cells ss t k = aligned_in (shape (known ss) t).align (shape (known ss) t).cells k (whole_type ss t).fair.cells

no_cells : AreCells []
no_cells k = record { aligned = refl; kind = refl }

globals_have : (w : PlainFirmware) (gs : List PlainGlobal) (g : ℕ) → AreCells (get_or (map (resolved_global (scope_of w)) gs) g no_global).shape.cells
globals_have w [] g = no_cells
globals_have w (x ∷ gs) zero = type_cells w.structs x.ty
globals_have w (x ∷ gs) (suc g) = globals_have w gs g

locals_have : (w : PlainFirmware) (ls : List PlainBinding) (l : ℕ) → AreCells (get_or (map (λ (l : PlainBinding). shape (known w.structs) l.ty) ls) l empty).cells
locals_have w [] l = no_cells
locals_have w (x ∷ ls) zero = type_cells w.structs x.ty
locals_have w (x ∷ ls) (suc l) = locals_have w ls l

funcs_have : (w : PlainFirmware) (fs : List PlainFunc) (f l : ℕ) → AreCells (get_or (get_or (map (resolved_func (scope_of w)) fs) f no_func).locals l empty).cells
funcs_have w [] f l = no_cells
funcs_have w (x ∷ fs) zero l = locals_have w x.locals l
funcs_have w (x ∷ fs) (suc f) l = funcs_have w fs f l

pub has_cells : (w : PlainFirmware) → HasCells (resolve w)
unfolding resolve
has_cells w = record { globals = globals_have w w.globals; locals = funcs_have w (funcs_of w) }

-- ---- the cell that is found

found_by : (b : Bool) (c : CellPlace) (cs : List CellPlace) (a : ℕ) (t : PlainType) (o : Option ℕ) (k : ℕ) → (b ≡ true → (c.at ≡ a) × (c.ty ≡ t))
    → ((j : ℕ) → o ≡ Some j → IsFound cs a t j) → (if b then Some zero else one_later o) ≡ Some k → IsFound (c ∷ cs) a t k
found_by true c cs a t o zero h g e = let x = h refl in record { below = omega arith; place = x.0; ty = x.1 }
found_by true c cs a t o (suc k) h g e = cc
found_by false c cs a t None k h g e = cc
found_by false c cs a t (Some j) zero h g e = cc
found_by false c cs a t (Some j) (suc k) h g e =
    let q : j ≡ k = cc in
    let x = subst (λ (i : ℕ). IsFound cs a t i) q (g j refl) in
    let y = x.below in
    record { below = omega arith; place = x.place; ty = x.ty }

pub found_at : (cs : List CellPlace) (a : ℕ) (t : PlainType) (k : ℕ) → cell_at cs a t ≡ Some k → IsFound cs a t k
unfolding cell_at
found_at [] a t k e = cc
found_at (c ∷ cs) a t k e =
    found_by (nat_eq c.at a && same c.ty t) c cs a t (cell_at cs a t) k
    (λ h. (eqb-true c.at a (and_parts (nat_eq c.at a) (same c.ty t) h).0, same_sound c.ty t (and_parts (nat_eq c.at a) (same c.ty t) h).1))
    (found_at cs a t) e
