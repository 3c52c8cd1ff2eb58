-- What the tests of types say.
use Rattle.std.proofs.Common.{◌≡◌, ℕ, zero, suc, ◌+◌, ◌*◌, ◌<◌, ◌≤◌, Bool, true, false, ◌&&◌, ◌||◌, List, [], ◌∷◌, length, Option, Some, None, refl, sym, ap, ◌∙◌, get_or, arith}
use Rattle.std.specs.Prelude.{if◌then◌else◌}
use Rattle.std.proofs.lemmas.Bool.{and_parts}
use Rattle.ir_model.specs.Types.{PlainType, U8, U16, U32, Pointer, Array, Named, Callee, PlainTypes, none, more, PlainResult, gives, same, is_integer, is_register_type, target_of, element_of}
use Rattle.ir_model.specs.Layout.{Known, shape}
use Rattle.ir_model.specs.Extents.{HasElements}
use Rattle.ir_model.specs.Rules.{is_type, is_address, is_port, is_element, holds_cell, fit, takes_result, is_call}
use Rattle.ir_model.proofs.SameTypes.{same_sound, result_sound}
use Rattle.ir_model.specs.Signatures.{in_row, row_length, widened}

abbrev pub IsElement : (base to : PlainType) → Type 0
IsElement b u = (b ≡ Pointer (target_of b)) × (u ≡ Pointer (element_of (target_of b)))

element_same : (t u e : PlainType) → e ≡ element_of t → same (Pointer e) u ≡ true → IsElement (Pointer t) u
element_same t u e q h = (refl, sym (same_sound (Pointer e) u h) ∙ ap Pointer q)

element_target : (t u : PlainType) → is_element (Pointer t) u ≡ true → IsElement (Pointer t) u
element_target U8 u h = element_same U8 u U8 refl h
element_target U16 u h = element_same U16 u U16 refl h
element_target U32 u h = element_same U32 u U32 refl h
element_target (Pointer t) u h = element_same (Pointer t) u (Pointer t) refl h
element_target (Array n t) u h = element_same (Array n t) u t refl h
element_target (Named n) u h = element_same (Named n) u (Named n) refl h
element_target (Callee a r) u h = element_same (Callee a r) u (Callee a r) refl h

pub element_sound : (b u : PlainType) → is_element b u ≡ true → IsElement b u
element_sound (Pointer t) u h = element_target t u h
element_sound U8 u h = cc
element_sound U16 u h = cc
element_sound U32 u h = cc
element_sound (Array n t) u h = cc
element_sound (Named n) u h = cc
element_sound (Callee a r) u h = cc

some_of : (n s : ℕ) → 0 < n → n * s ≤ 65536 → s ≤ 65536
some_of zero s p h = absurd (omega arith)
some_of (suc n) s p h = let a : suc n * s ≡ s + n * s = grind arith in omega arith

-- an element is no larger than its array
pub element_smaller : (ks : List Known) (t : PlainType) → HasElements t → (shape ks t).size ≤ 65536 → (shape ks (element_of t)).size ≤ 65536
element_smaller ks U8 e h = h
element_smaller ks U16 e h = h
element_smaller ks U32 e h = h
element_smaller ks (Pointer t) e h = h
element_smaller ks (Array n t) e h = some_of n (shape ks t).size e.0 h
element_smaller ks (Named n) e h = h
element_smaller ks (Callee a r) e h = h

abbrev pub IsHeld : (pointer register : PlainType) → Type 0
IsHeld p u = (p ≡ Pointer (target_of p)) × (u ≡ widened (target_of p)) × ((is_integer (target_of p) || is_register_type (target_of p)) ≡ true)

held_by : (b : Bool) (t u : PlainType) → is_integer t ≡ b → (if b then same u U32 else (is_register_type t && same t u)) ≡ true → (u ≡ (if b then U32 else t)) × ((b || is_register_type t) ≡ true)
held_by true t u e h = (same_sound u U32 h, refl)
held_by false t u e h = let c = and_parts (is_register_type t) (same t u) h in (sym (same_sound t u c.1), c.0)

pub held_sound : (p u : PlainType) → holds_cell p u ≡ true → IsHeld p u
held_sound (Pointer t) u h = let c = held_by (is_integer t) t u refl h in (refl, c.0, c.1)
held_sound U8 u h = cc
held_sound U16 u h = cc
held_sound U32 u h = cc
held_sound (Array n t) u h = cc
held_sound (Named n) u h = cc
held_sound (Callee a r) u h = cc

pub is_type_sound : (o : Option PlainType) (t : PlainType) → is_type o t ≡ true → o ≡ Some t
is_type_sound None t h = cc
is_type_sound (Some u) t h = ap Some (same_sound u t h)

pub is_address_sound : (o : Option PlainType) (t : PlainType) → is_address o t ≡ true → (u : PlainType) × (o ≡ Some u) × (t ≡ Pointer u)
is_address_sound None t h = cc
is_address_sound (Some u) t h = (u, refl, sym (same_sound (Pointer u) t h))

pub is_port_sound : (t : PlainType) → is_port t ≡ true → (t ≡ Pointer (target_of t)) × (is_integer (target_of t) ≡ true)
is_port_sound (Pointer t) h = (refl, h)
is_port_sound U8 h = cc
is_port_sound U16 h = cc
is_port_sound U32 h = cc
is_port_sound (Array n t) h = cc
is_port_sound (Named n) h = cc
is_port_sound (Callee a r) h = cc

pub integer_size : (ks : List Known) (t : PlainType) → is_integer t ≡ true → (shape ks t).size ≤ 65536
integer_size ks U8 h = omega arith
integer_size ks U16 h = omega arith
integer_size ks U32 h = omega arith
integer_size ks (Pointer t) h = cc
integer_size ks (Array n t) h = cc
integer_size ks (Named n) h = cc
integer_size ks (Callee a r) h = cc

-- ---- calls

pub fit_count : (a : PlainTypes) (us : List PlainType) → fit a us ≡ true → length us ≡ row_length a
fit_count none [] h = refl
fit_count none (u ∷ us) h = cc
fit_count (more t ts) [] h = cc
fit_count (more t ts) (u ∷ us) h = ap suc (fit_count ts us (and_parts (same t u) (fit ts us) h).1)

pub fit_each : (a : PlainTypes) (us : List PlainType) → fit a us ≡ true → (k : ℕ) → k < length us → get_or us k U32 ≡ in_row a k
fit_each none [] h k l = absurd (omega arith)
fit_each none (u ∷ us) h k l = cc
fit_each (more t ts) [] h k l = cc
fit_each (more t ts) (u ∷ us) h zero l = sym (same_sound t u (and_parts (same t u) (fit ts us) h).0)
fit_each (more t ts) (u ∷ us) h (suc k) l = fit_each ts us (and_parts (same t u) (fit ts us) h).1 k (omega arith)

pub kept_sound : (r : PlainResult) (t : PlainType) → takes_result r (Some t) ≡ true → r ≡ gives t
kept_sound r t h = result_sound r (gives t) h

pub record CallSound (o : Option PlainType) (us : List PlainType) (k : Option PlainType) : Type 0 where
  pub params : PlainTypes
  pub outcome : PlainResult
  pub is : o ≡ Some (Callee params outcome)
  pub fits : fit params us ≡ true
  pub takes : takes_result outcome k ≡ true

pub call_sound : (o : Option PlainType) (us : List PlainType) (k : Option PlainType) → is_call o us k ≡ true → CallSound o us k
call_sound (Some (Callee a r)) us k h =
    let c = and_parts (fit a us) (takes_result r k) h in
    record { params = a; outcome = r; is = refl; fits = c.0; takes = c.1 }
call_sound None us k h = cc
call_sound (Some U8) us k h = cc
call_sound (Some U16) us k h = cc
call_sound (Some U32) us k h = cc
call_sound (Some (Pointer t)) us k h = cc
call_sound (Some (Array n t)) us k h = cc
call_sound (Some (Named n)) us k h = cc
