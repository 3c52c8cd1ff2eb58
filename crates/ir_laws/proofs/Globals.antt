-- The globals of a firmware that passes the checks are small, and their initial values fit their cells.
use Rattle.std.proofs.Common.{ap, ◌≡◌, ℕ, zero, suc, ◌*◌, ◌^◌, Bool, true, false, ◌&&◌, ◌||◌, List, [], ◌∷◌, ◌++◌, length, nat_le, nat_lt, refl, sym, subst, get_or, map, arith}
use Rattle.std.specs.Prelude.{if◌then◌else◌}
use Rattle.std.proofs.lemmas.List.{length-map}
use Rattle.std.proofs.lemmas.Bool.{leb-true, and_parts}
use Rattle.std.proofs.lemmas.Bool.Decides.{nat_tests}
use Rattle.ir_model.specs.declared.firmware.Cell.{Cell}
use Rattle.ir_model.specs.declared.firmware.Cell.TheVariants.{Word, Function, Address}
use Rattle.ir_model.specs.declared.firmware.Peripheral.{Peripheral}
use Rattle.ir_model.specs.declared.check.CheckKind.TheVariants.{Unknown, ObjectTooLarge, BadInit}
use Rattle.ir_model.specs.declared.check.CheckPlace.{CheckPlace}
use Rattle.ir_model.specs.declared.check.CheckPlace.TheVariants as place
use Rattle.ir_model.specs.Types.{PlainType, target_of, is_integer, width_of}
use Rattle.ir_model.specs.Plain.{PlainFunc, PlainGlobal, PlainFirmware, funcs_of}
use Rattle.ir_model.specs.Layout.{CellPlace, known, shape}
use Rattle.ir_model.specs.Resolved.{Value, Number, Code, At, OfGlobal, OfPeriph, no_global}
use Rattle.base_names.specs.Numbers.{has, number_of}
use Rattle.ir_model.specs.Resolve.{Scope, scope_of, resolved_func, resolved_global, window_of, value_of, filled, resolve}
use Rattle.ir_model.specs.Rules.{global_type, func_type, is_type, is_address, is_port}
use Rattle.ir_model.specs.Typing.{Checks, check, is_new, type_checks, object_limit, cell_checks, init_checks, global_checks, globals_checks}
use Rattle.ir_model.specs.Signatures.{cell_in}
use Rattle.ir_model.proofs.Passing.{Pass, left, right, holds, behind}
use Rattle.ir_model.proofs.Typed.{structs_named}
use Rattle.ir_laws.specs.Typed.{Fits, number, at, code}
use Rattle.ir_laws.proofs.Names.{number_in, func_found, global_found, EachGlobal}
use Rattle.ir_laws.proofs.Places.{sizes, IsSmall}
use Rattle.ir_laws.proofs.Tests.{is_type_sound, is_address_sound, is_port_sound, integer_size}
use Rattle.ir_laws.proofs.Values.{zero_fits}

module _ (w : PlainFirmware) where
  abbrev scope : Scope
  scope = scope_of w

  pub small_globals : (seen : List (List ℕ)) (gs : List PlainGlobal) → Pass (globals_checks w seen gs) → EachGlobal (IsSmall w) gs
  small_globals seen [] h = tt
  small_globals seen (g ∷ gs) h =
      let p : CheckPlace = place.Global g.name in
      let ds : List (List ℕ) = structs_named w in
      let own = left (global_checks w seen g) (globals_checks w (seen ++ g.name ∷ []) gs) h in
      let front : Checks = is_new seen g.name p ∷ type_checks ds ds p g.ty in
      let c : Checks = check (nat_le (length g.init) (length (shape (known w.structs) g.ty).cells)) BadInit p ∷ [] in
      let both_ : Checks = check (nat_le (shape (known w.structs) g.ty).size object_limit) ObjectTooLarge p ∷ c in (
        leb-true (shape (known w.structs) g.ty).size object_limit
            (holds (nat_le (shape (known w.structs) g.ty).size object_limit) ObjectTooLarge p c
            (right front both_ (left (front ++ both_) (init_checks w p g.init (shape (known w.structs) g.ty).cells) own))),
        small_globals (seen ++ g.name ∷ []) gs (right (global_checks w seen g) (globals_checks w (seen ++ g.name ∷ []) gs) h),
      )

  abbrev FitsHere : PlainType → Value → Type 0
  FitsHere t v = Fits (resolve w) (sizes w) (λ _. true) t v

  module _ (globals : EachGlobal (IsSmall w) w.globals) where
    outer_fits : (b : Bool) (x : List ℕ) (t : PlainType) → has (map (λ (q : Peripheral). q.name) w.periphs) x ≡ b → (if b then is_port t else is_address (global_type w.globals x) t) ≡ true
        → FitsHere t (if b then At (OfPeriph (number_of (map (λ (q : Peripheral). q.name) w.periphs) x)) 0 else At (OfGlobal (number_of (map (λ (g : PlainGlobal). g.name) w.globals) x)) 0)
    unfolding resolve
    outer_fits true x t e h =
        let a = is_port_sound t h in
        let n = number_in (λ (q : Peripheral). q.name) w.periphs x e in
        let m = length-map w.periphs window_of in
        let v : Value = At (OfPeriph (number_of (map (λ (q : Peripheral). q.name) w.periphs) x)) 0 in
        subst (λ (u : PlainType). FitsHere u v) (sym a.0)
        (at (OfPeriph (number_of (map (λ (q : Peripheral). q.name) w.periphs) x)) 0 refl (omega arith) (omega arith) (integer_size (known w.structs) (target_of t) a.1))
    outer_fits false x t e h =
        let a = is_address_sound (global_type w.globals x) t h in
        let b = global_found (IsSmall w) w.globals x a.0 globals a.1 in
        let n = length-map w.globals (resolved_global (scope_of w)) in
        let c = b.0 in
        let v : Value = At (OfGlobal (number_of (map (λ (g : PlainGlobal). g.name) w.globals) x)) 0 in
        subst (λ (u : PlainType). FitsHere u v) (sym a.2)
        (at (OfGlobal (number_of (map (λ (g : PlainGlobal). g.name) w.globals) x)) 0 refl (omega arith) (omega arith) b.1)

    cell_fits : (p : CheckPlace) (c : Cell) (t : PlainType) → Pass (cell_checks w p c t) → FitsHere t (value_of scope c)
    unfolding resolve
    cell_fits p (Word n) t h =
        let e = and_parts (is_integer t) (nat_lt n (2 ^ (8 * width_of t))) (holds (is_integer t && nat_lt n (2 ^ (8 * width_of t))) BadInit p [] h) in
        let x = e.1 in
        number n e.0 (grind (arith, nat_tests))
    cell_fits p (Function f) t h =
        let k : Checks = check (is_type (func_type (funcs_of w) f) t) BadInit p ∷ [] in
        let e = is_type_sound (func_type (funcs_of w) f) t (holds (is_type (func_type (funcs_of w) f) t) BadInit p [] (behind (has (map (λ (g : PlainFunc). g.name) (funcs_of w)) f) (Unknown f) p k h)) in
        let a = func_found scope (funcs_of w) f t e in
        let n = length-map (funcs_of w) (resolved_func scope) in
        let b = a.0 in
        subst (λ (u : PlainType). FitsHere u (Code (number_of (map (λ (g : PlainFunc). g.name) (funcs_of w)) f))) a.1 (code (number_of (map (λ (g : PlainFunc). g.name) (funcs_of w)) f) refl refl (omega arith))
    cell_fits p (Address x) t h =
        let is_periph : Bool = has (map (λ (q : Peripheral). q.name) w.periphs) x in
        let is_global : Bool = has (map (λ (g : PlainGlobal). g.name) w.globals) x in
        let test : Bool = if is_periph then is_port t else is_address (global_type w.globals x) t in
        outer_fits (has (map (λ (q : Peripheral). q.name) w.periphs) x) x t refl (holds test BadInit p [] (behind (is_periph || is_global) (Unknown x) p (check test BadInit p ∷ []) h))

    init_fits : (p : CheckPlace) (cs : List Cell) (ts : List CellPlace) → Pass (init_checks w p cs ts) → (k : ℕ) → FitsHere ((cell_in ts k).ty) (get_or (filled ts (map (value_of scope) cs)) k (Number 0))
    init_fits p cs [] h k = number 0 refl (omega arith)
    init_fits p [] (t ∷ ts) h zero = zero_fits (resolve w) (sizes w) (λ _. true) t.ty
    init_fits p [] (t ∷ ts) h (suc k) = init_fits p [] ts h k
    init_fits p (c ∷ cs) (t ∷ ts) h zero = cell_fits p c t.ty (left (cell_checks w p c t.ty) (init_checks w p cs ts) h)
    init_fits p (c ∷ cs) (t ∷ ts) h (suc k) = init_fits p cs ts (right (cell_checks w p c t.ty) (init_checks w p cs ts) h) k

    pub globals_fit : (seen : List (List ℕ)) (gs : List PlainGlobal) → Pass (globals_checks w seen gs) → (g k : ℕ)
        → FitsHere (cell_in (get_or (map (resolved_global scope) gs) g no_global).shape.cells k).ty (get_or (get_or (map (resolved_global scope) gs) g no_global).init k (Number 0))
    globals_fit seen [] h g k = number 0 refl (omega arith)
    globals_fit seen (x ∷ gs) h zero k =
        let p : CheckPlace = place.Global x.name in
        let ds : List (List ℕ) = structs_named w in
        let own = left (global_checks w seen x) (globals_checks w (seen ++ x.name ∷ []) gs) h in
        let front : Checks = (is_new seen x.name p ∷ type_checks ds ds p x.ty) ++ (check (nat_le (shape (known w.structs) x.ty).size object_limit) ObjectTooLarge p ∷ check (nat_le (length x.init) (length (shape (known w.structs) x.ty).cells)) BadInit p ∷ []) in
        init_fits p x.init (shape (known w.structs) x.ty).cells (right front (init_checks w p x.init (shape (known w.structs) x.ty).cells) own) k
    globals_fit seen (x ∷ gs) h (suc g) k = globals_fit (seen ++ x.name ∷ []) gs (right (global_checks w seen x) (globals_checks w (seen ++ x.name ∷ []) gs) h) g k

  filled_length : (ts : List CellPlace) (vs : List Value) → length (filled ts vs) ≡ length ts
  filled_length [] vs = refl
  filled_length (t ∷ ts) [] = ap suc (filled_length ts [])
  filled_length (t ∷ ts) (v ∷ vs) = ap suc (filled_length ts vs)

  pub globals_filled : (gs : List PlainGlobal) (g : ℕ) → length (get_or (map (resolved_global scope) gs) g no_global).init ≡ length (get_or (map (resolved_global scope) gs) g no_global).shape.cells
  globals_filled [] g = refl
  globals_filled (x ∷ gs) zero = filled_length (shape (known w.structs) x.ty).cells (map (value_of scope) x.init)
  globals_filled (x ∷ gs) (suc g) = globals_filled gs g
