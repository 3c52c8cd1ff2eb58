-- The globals and locals of a firmware that passes the checks have at most 65,536 bytes each.
use Rattle.std.proofs.Common.{◌≤◌, ℕ, zero, suc, List, [], ◌∷◌, get_or, map, arith}
use Rattle.ir_model.specs.declared.check.CheckPlace.{CheckPlace}
use Rattle.ir_model.specs.declared.check.CheckPlace.TheVariants as place
use Rattle.ir_model.specs.declared.firmware.Peripheral.{Peripheral}
use Rattle.ir_model.specs.Plain.{PlainBinding, PlainFunc, PlainGlobal, PlainFirmware, names_of, funcs_of}
use Rattle.ir_model.specs.Layout.{shape, empty}
use Rattle.ir_model.specs.Resolved.{no_func, no_global}
use Rattle.ir_model.specs.Resolve.{Scope, scope_of, resolved_func, resolved_global, resolve}
use Rattle.ir_model.specs.Typing.{object_limit, func_checks, funcs_checks, IsTyped}
use Rattle.ir_model.proofs.Passing.{Pass, left, right}
use Rattle.ir_model.proofs.Typed.{structs_named, parts_pass, by_parts}
use Rattle.ir_laws.specs.Limits.{HasSmallObjects}
use Rattle.ir_laws.proofs.Names.{EachGlobal, EachBinding}
use Rattle.ir_laws.proofs.Places.{IsSmall}
use Rattle.ir_laws.proofs.Functions.{small_locals}
use Rattle.ir_laws.proofs.Globals.{small_globals}

module _ (w : PlainFirmware) where
  abbrev scope : Scope
  scope = scope_of w

  small_global : (gs : List PlainGlobal) (g : ℕ) → EachGlobal (IsSmall w) gs → (get_or (map (resolved_global scope) gs) g no_global).shape.size ≤ object_limit
  small_global [] g h = omega arith
  small_global (x ∷ gs) zero h = h.0
  small_global (x ∷ gs) (suc g) h = small_global gs g h.1

  small_local : (ls : List PlainBinding) (l : ℕ) → EachBinding (IsSmall w) ls → (get_or (map (λ (s : PlainBinding). shape scope.known s.ty) ls) l empty).size ≤ object_limit
  small_local [] l h = omega arith
  small_local (x ∷ ls) zero h = h.0
  small_local (x ∷ ls) (suc l) h = small_local ls l h.1

  small_in : (fs : List PlainFunc) (f l : ℕ) → Pass (funcs_checks w fs) → (get_or (get_or (map (resolved_func scope) fs) f no_func).locals l empty).size ≤ object_limit
  small_in [] f l h = omega arith
  small_in (x ∷ fs) zero l h =
      let q = by_parts w x (left (func_checks w x) (funcs_checks w fs) h) in
      let p : CheckPlace = place.Func x.name in
      small_local x.locals l (small_locals w (structs_named w) p (names_of x.params) x.locals q.locals)
  small_in (x ∷ fs) (suc f) l h = small_in fs f l (right (func_checks w x) (funcs_checks w fs) h)

  pub small_objects : IsTyped w → HasSmallObjects (resolve w)
  unfolding resolve
  small_objects t =
      let q = parts_pass w t in
      record {
        globals = λ g. small_global w.globals g (small_globals w (map (λ (q : Peripheral). q.name) w.periphs) w.globals q.globals);
        locals = λ f l. small_in (funcs_of w) f l q.funcs;
      }
