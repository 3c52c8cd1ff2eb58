-- The words of the values that globals have at first, by the places of the linker and by those of what is built.
use Rattle.std.proofs.Common.{ℕ, zero, suc, ◌<◌, Bool, true, false, List, [], ◌∷◌, length, map, get_or}
use Rattle.std.specs.Prelude.{if◌then◌else◌}
use Rattle.base_laws.specs.Lists.{Each}
use Rattle.ir_model.specs.declared.firmware.Cell.{Cell}
use Rattle.ir_model.specs.declared.firmware.Cell.TheVariants.{Word, Function, Address}
use Rattle.ir_model.specs.Types.{PlainType, is_integer}
use Rattle.ir_model.specs.Plain.{PlainGlobal, PlainFirmware}
use Rattle.ir_model.specs.Layout.{CellPlace, shape}
use Rattle.ir_model.specs.Resolved.{Program, Value, Number, Code, Null, At, OfGlobal, OfPeriph, OfLocal, no_global, global_at}
use Rattle.base_names.specs.Numbers.{number_of, has}
use Rattle.ir_model.specs.Resolve.{Scope, scope_of, value_of, zero_of, filled, resolved_global, resolve}
use Rattle.ir_model.specs.State.{Object}
use Rattle.ir_laws.specs.Typed.{IsPlaced, Fits, number, null, at, code, Typed}

-- ---- no global has the address of a local at first

abbrev pub NoLocal : Value → Type 0
NoLocal (At (OfLocal f n l) k) = ⊥
NoLocal _ = Unit {0}

of_cell : (s : Scope) (c : Cell) → NoLocal (value_of s c)
of_cell s (Word n) = tt
of_cell s (Function f) = tt
of_cell s (Address x) = by (has s.periphs x)
  where
    by : (b : Bool) → NoLocal (if b then At (OfPeriph (number_of s.periphs x)) 0 else At (OfGlobal (number_of s.globals x)) 0)
    by true = tt
    by false = tt

of_zero : (t : PlainType) → NoLocal (zero_of t)
of_zero t = by (is_integer t)
  where
    by : (b : Bool) → NoLocal (if b then Number 0 else Null)
    by true = tt
    by false = tt

of_filled : (cs : List CellPlace) (vs : List Value) → Each NoLocal vs → Each NoLocal (filled cs vs)
of_filled [] vs h = tt
of_filled (c ∷ cs) [] h = (of_zero c.ty, of_filled cs [] tt)
of_filled (c ∷ cs) (v ∷ vs) h = (h.0, of_filled cs vs h.1)

of_cells : (s : Scope) (cs : List Cell) → Each NoLocal (map (value_of s) cs)
of_cells s [] = tt
of_cells s (c ∷ cs) = (of_cell s c, of_cells s cs)

among : (s : Scope) (gs : List PlainGlobal) (x : ℕ) → Each NoLocal (get_or (map (resolved_global s) gs) x no_global).init
among s [] x = tt
among s (g ∷ gs) zero = of_filled (shape s.known g.ty).cells (map (value_of s) g.init) (of_cells s g.init)
among s (g ∷ gs) (suc x) = among s gs x

no_locals : (w : PlainFirmware) (x : ℕ) → Each NoLocal (global_at (resolve w) x).init
unfolding resolve
no_locals w x = among (scope_of w) w.globals x

-- ---- what they name is there

abbrev pub IsKnown : Program → Value → Type 0
IsKnown p (Number n) = Unit {0}
IsKnown p Null = Unit {0}
IsKnown p (Code f) = f < length p.funcs
IsKnown p (At o k) = IsPlaced p o × NoLocal (At o k)

known_by : (p : Program) (sizes : PlainType → ℕ) (X : Object → Bool) (t : PlainType) (v : Value) → Fits p sizes X t v → NoLocal v → IsKnown p v
known_by p sizes X t v (number n e l) h = tt
known_by p sizes X t v (null e) h = tt
known_by p sizes X t v (at o k e l i s) h = (i, h)
known_by p sizes X t v (code g s e i) h = i

each_known : (p : Program) (vs : List Value) (d : Value) → ((k : ℕ) → NoLocal (get_or vs k d) → IsKnown p (get_or vs k d)) → Each NoLocal vs → Each (IsKnown p) vs
each_known p [] d g h = tt
each_known p (v ∷ vs) d g h = (g 0 h.0, each_known p vs d (λ k. g (suc k)) h.1)

pub values_known : (w : PlainFirmware) (sizes : PlainType → ℕ) → Typed (resolve w) sizes → (x : ℕ) → Each (IsKnown (resolve w)) (global_at (resolve w) x).init
values_known w sizes typed x =
    each_known (resolve w) (global_at (resolve w) x).init (Number 0) (λ k. known_by (resolve w) sizes (λ o. true) _ _ (typed.cells x k)) (no_locals w x)
