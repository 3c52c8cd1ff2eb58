-- The cells of a type lie apart and inside it.
use Rattle.std.proofs.Common.{ℕ, zero, suc, ◌+◌, ◌*◌, ◌<◌, ◌≤◌, Bool, true, false, if◌then◌else◌, bytes_eq, max, List, [], ◌∷◌, ◌++◌, map, arith}
use Rattle.std.proofs.Math.ListN.{get_or}
use Rattle.ir_model.specs.Types.{PlainType, U8, U16, U32, Pointer, Array, Named, Callee, width_of}
use Rattle.ir_model.specs.Plain.{PlainBinding, PlainStruct, PlainFunc, PlainFirmware, funcs_of}
use Rattle.ir_model.specs.Layout.{CellPlace, Shape, Known, empty, shape_named, shifted, copies, one_cell, array_of, shape, rounded_up, with_field, laid_out, field_places, with_struct, known_behind, known}
use Rattle.ir_model.specs.Resolved.{NumberedGlobal, NumberedFunc, no_global, no_func}
use Rattle.ir_model.specs.Resolve.{scope_of, resolved_global, resolved_func, resolve}
use Rattle.ir_model.proofs.Counting.{rounded_at_least}
use Rattle.ir_laws.specs.Laws.{IsLaidOut, CellsOfTypes, AreApart, CellsOfFirmwares}

-- a cell has a byte at least
pub positive_width : (t : PlainType) → 0 < width_of t
positive_width U8 = omega arith
positive_width U16 = omega arith
positive_width U32 = omega arith
positive_width (Pointer t) = omega arith
positive_width (Array n t) = omega arith
positive_width (Named n) = omega arith
positive_width (Callee a r) = omega arith

-- cells that are laid out from and to other bounds
earlier : (m n to : ℕ) (cs : List CellPlace) → m ≤ n → IsLaidOut n to cs → IsLaidOut m to cs
earlier m n to [] l h = omega arith
earlier m n to (c ∷ cs) l h = (omega (arith, h.0), h.1)

pub longer : (from m n : ℕ) (cs : List CellPlace) → m ≤ n → IsLaidOut from m cs → IsLaidOut from n cs
longer from m n [] l h = omega arith
longer from m n (c ∷ cs) l h = (h.0, longer (c.at + width_of c.ty) m n cs l h.1)

moved : (d from to : ℕ) (cs : List CellPlace) → IsLaidOut from to cs → IsLaidOut (d + from) (d + to) (shifted d cs)
moved d from to [] h = omega arith
moved d from to (c ∷ cs) h = (
  omega (arith, h.0),
  earlier (d + c.at + width_of c.ty) (d + (c.at + width_of c.ty)) (d + to) (shifted d cs) (omega arith) (moved d (c.at + width_of c.ty) to cs h.1),
)

joined : (from mid to : ℕ) (xs ys : List CellPlace) → IsLaidOut from mid xs → IsLaidOut mid to ys → IsLaidOut from to (xs ++ ys)
joined from mid to [] ys h g = earlier from mid to ys h g
joined from mid to (c ∷ xs) ys h g = (h.0, joined (c.at + width_of c.ty) mid to xs ys h.1 g)

-- an array's elements
one_more : (n at step : ℕ) → at + step + n * step ≤ at + suc n * step
one_more n at step = grind arith

repeated : (n at step : ℕ) (cs : List CellPlace) → IsLaidOut 0 step cs → IsLaidOut at (at + n * step) (copies n at step cs)
repeated zero at step cs h = omega arith
repeated (suc n) at step cs h =
    joined at (at + step) (at + suc n * step) (shifted at cs) (copies n (at + step) step cs)
    (earlier at (at + 0) (at + step) (shifted at cs) (omega arith) (moved at 0 step cs h))
    (longer (at + step) (at + step + n * step) (at + suc n * step) (copies n (at + step) step cs) (one_more n at step) (repeated n (at + step) step cs h))

-- a shape whose cells are laid out, and whose alignment is not 0
pub record IsSound (s : Shape) : Type 0 where
  pub aligned : 0 < s.align
  pub cells : IsLaidOut 0 s.size s.cells

abbrev pub AreSound : List Known → Type 0
AreSound [] = Unit {0}
AreSound (k ∷ ks) = IsSound k.shape × AreSound ks

sound_if : (b : Bool) (s t : Shape) → IsSound s → IsSound t → IsSound (if b then s else t)
sound_if true s t h g = h
sound_if false s t h g = g

sound_named : (ks : List Known) (n : List ℕ) → AreSound ks → IsSound (shape_named ks n)
sound_named [] n h = record { aligned = omega arith; cells = omega arith }
sound_named (k ∷ ks) n h = sound_if (bytes_eq k.name n) k.shape (shape_named ks n) h.0 (sound_named ks n h.1)

sound_cell : (n : ℕ) (t : PlainType) → 0 < n → width_of t ≤ n → IsSound (one_cell n t)
sound_cell n t p l = record { aligned = p; cells = (omega arith, omega arith) }

sound_array : (n : ℕ) (s : Shape) → IsSound s → IsSound (array_of n s)
sound_array n s h =
    record { aligned = h.aligned; cells = longer 0 (0 + n * s.size) (n * s.size) (copies n 0 s.size s.cells) (omega arith) (repeated n 0 s.size s.cells h.cells) }

pub sound : (ks : List Known) (t : PlainType) → AreSound ks → IsSound (shape ks t)
sound ks U8 h = sound_cell 1 U8 (omega arith) (omega arith)
sound ks U16 h = sound_cell 2 U16 (omega arith) (omega arith)
sound ks U32 h = sound_cell 4 U32 (omega arith) (omega arith)
sound ks (Pointer t) h = sound_cell 4 (Pointer t) (omega arith) (omega arith)
sound ks (Array n t) h = sound_array n (shape ks t) (sound ks t h)
sound ks (Named n) h = sound_named ks n h
sound ks (Callee a r) h = sound_cell 4 (Callee a r) (omega arith) (omega arith)

-- a struct's fields
sound_behind : (s u : Shape) (at : ℕ) → s.size ≤ at → IsSound s → IsSound u
    → IsSound (record { size = at + u.size; align = max s.align u.align; cells = s.cells ++ shifted at u.cells })
sound_behind s u at l h g =
    let p = h.aligned in
    record {
      aligned = omega arith;
      cells =
          joined 0 at (at + u.size) s.cells (shifted at u.cells) (longer 0 s.size at s.cells l h.cells)
          (earlier at (at + 0) (at + u.size) (shifted at u.cells) (omega arith) (moved at 0 u.size u.cells g.cells));
    }

sound_field : (ks : List Known) (s : Shape) (t : PlainType) → AreSound ks → IsSound s → IsSound (with_field ks s t)
sound_field ks s t a h =
    let u = sound ks t a in
    sound_behind s (shape ks t) (rounded_up s.size (shape ks t).align) (rounded_at_least s.size (shape ks t).align u.aligned) h u

pub sound_fields : (ks : List Known) (s : Shape) (fs : List PlainBinding) → AreSound ks → IsSound s → IsSound (laid_out ks s fs)
sound_fields ks s [] a h =
    record { aligned = h.aligned; cells = longer 0 s.size (rounded_up s.size s.align) s.cells (rounded_at_least s.size s.align h.aligned) h.cells }
sound_fields ks s (f ∷ fs) a h = sound_fields ks (with_field ks s f.ty) fs a (sound_field ks s f.ty a h)

pub sound_more : (ks : List Known) (k : Known) → AreSound ks → IsSound k.shape → AreSound (ks ++ k ∷ [])
sound_more [] k h g = (g, tt)
sound_more (j ∷ ks) k h g = (h.0, sound_more ks k h.1 g)

pub sound_empty : IsSound empty
sound_empty = record { aligned = omega arith; cells = omega arith }

pub sound_structs : (ks : List Known) (ss : List PlainStruct) → AreSound ks → AreSound (known_behind ks ss)
sound_structs ks [] a = a
sound_structs ks (s ∷ ss) a =
    sound_structs (with_struct ks s) ss
    (sound_more ks (record { name = s.name; shape = laid_out ks empty s.fields; fields = field_places ks empty s.fields }) a (sound_fields ks empty s.fields a sound_empty))

pub cells_of_types : CellsOfTypes
unfolding known
cells_of_types structs t = (sound (known_behind [] structs) t (sound_structs [] structs tt)).cells

-- what is at a number is one of the list, or the default
at_each : {A B : Type 0} (P : B → Type 0) (f : A → B) (xs : List A) (k : ℕ) (d : B) → P d → ((x : A) → P (f x)) → P (get_or (map f xs) k d)
at_each P f [] k d h g = h
at_each P f (x ∷ xs) zero d h g = g x
at_each P f (x ∷ xs) (suc k) d h g = at_each P f xs k d h g

none_apart : AreApart []
none_apart = record { to = 0; laid_out = omega arith }

type_apart : (structs : List PlainStruct) (t : PlainType) → AreApart (shape (known structs) t).cells
type_apart structs t = record { to = (shape (known structs) t).size; laid_out = cells_of_types structs t }

abbrev HasLocalsApart : NumberedFunc → Type 0
HasLocalsApart f = (l : ℕ) → AreApart (get_or f.locals l empty).cells

locals_apart : (w : PlainFirmware) (f : PlainFunc) → HasLocalsApart (resolved_func (scope_of w) f)
locals_apart w f l =
    at_each (λ (s : Shape). AreApart s.cells) (λ (s : PlainBinding). shape (known w.structs) s.ty) f.locals l empty none_apart (λ s. type_apart w.structs s.ty)

pub cells_of_firmwares : CellsOfFirmwares
unfolding resolve
cells_of_firmwares w =
    record {
      globals = λ g. at_each (λ (o : NumberedGlobal). AreApart o.shape.cells) (resolved_global (scope_of w)) w.globals g no_global none_apart (λ o. type_apart w.structs o.ty);
      locals = λ f. at_each HasLocalsApart (resolved_func (scope_of w)) (funcs_of w) f no_func (λ l. none_apart) (locals_apart w);
    }

-- cells end at or before the last bound
pub last_end : (a size : ℕ) (ds : List CellPlace) → IsLaidOut a size ds → a ≤ size
last_end a size [] l = l
last_end a size (d ∷ ds) l = let e = last_end (d.at + width_of d.ty) size ds l.1 in let z = l.0 in omega (arith, e, z)
