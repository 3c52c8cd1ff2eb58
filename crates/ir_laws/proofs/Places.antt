-- What stands at each place of a function that passes the checks is typed, once it is resolved.
use Rattle.std.proofs.Common.{◌≡◌, ℕ, zero, suc, ◌<◌, ◌≤◌, Bool, true, false, ◌&&◌, List, [], ◌∷◌, ◌++◌, length, Option, Some, None, refl, sym, ◌∙◌, subst, get_or, map, arith}
use Rattle.std.specs.Prelude.{if◌then◌else◌}
use Rattle.std.proofs.lemmas.List.{length-map}
use Rattle.std.proofs.lemmas.Bool.{and_parts}
use Rattle.ir_model.specs.declared.firmware.Inst.{Inst}
use Rattle.ir_model.specs.declared.firmware.Inst.TheVariants as inst
use Rattle.ir_model.specs.declared.firmware.Term.{Term}
use Rattle.ir_model.specs.declared.firmware.Term.TheVariants as term
use Rattle.ir_model.specs.declared.firmware.Block.{Block}
use Rattle.ir_model.specs.declared.firmware.Peripheral.{Peripheral}
use Rattle.ir_model.specs.declared.check.CheckKind.TheVariants.{Unknown, IllTyped}
use Rattle.ir_model.specs.declared.check.CheckPlace.{CheckPlace}
use Rattle.ir_model.specs.declared.check.CheckPlace.TheVariants as place
use Rattle.ir_model.specs.Types.{PlainType, U8, U16, U32, Pointer, Array, Named, Callee, PlainTypes, PlainResult, nothing, gives, target_of, element_of}
use Rattle.ir_model.specs.Plain.{PlainBinding, PlainFunc, PlainGlobal, PlainFirmware, names_of, types_of, funcs_of, regs_of}
use Rattle.ir_model.specs.Layout.{known, shape, fields_named}
use Rattle.ir_model.specs.Resolved.{NumberedFunc, no_block, func_at, here_in, TheGlobal, ThePeriph, TheLocal}
use Rattle.ir_model.specs.Resolved as numbered
use Rattle.base_names.specs.Numbers.{has, number_of}
use Rattle.ir_model.specs.Resolve.{scope_of, register_number, type_named, offset_named, field_offset, named_by, optional, resolved_inst, resolved_term, resolved_block, resolved_func, resolved_global, window_of, labels_of, resolve}
use Rattle.ir_model.specs.Extents.{HasElements}
use Rattle.base_laws.specs.Lists.{Each}
use Rattle.ir_model.specs.Rules.{binding_type, global_type, field_type, func_type, is_address, is_port, is_address_of, is_element, is_field, holds_cell, fit, takes_result, kept_type, is_number, inst_fits, term_fits}
use Rattle.ir_model.specs.Typing.{Checks, check, is_known, registers_known, optional_name, has_address, has_func, inst_names, label_known, term_names, code_checks, blocks_checks}
use Rattle.ir_model.proofs.Passing.{Pass, left, right, holds, behind}
use Rattle.ir_model.proofs.SameTypes.{same_sound, result_sound}
use Rattle.ir_laws.specs.Typed.{Has, KeepsResult, CallTyped, CellTyped, IsThere, InstTyped, EndTyped, HereTyped}
use Rattle.ir_model.proofs.Limits.{HasWord, HasFewArguments, PointsWell}
use Rattle.ir_laws.proofs.Names.{number_in, func_found, global_found, binding_found, EachGlobal, EachBinding}
use Rattle.ir_laws.proofs.Tests.{element_sound, element_smaller, held_sound, is_type_sound, is_address_sound, is_port_sound, integer_size, fit_count, fit_each, kept_sound, call_sound}

params_same : (a b : PlainTypes) (r s : PlainResult) → Callee a r ≡ Callee b s → a ≡ b
params_same a b r s e = cc

outcome_same : (a b : PlainTypes) (r s : PlainResult) → Callee a r ≡ Callee b s → r ≡ s
outcome_same a b r s e = cc

module _ (w : PlainFirmware) where
  abbrev pub sizes : PlainType → ℕ
  sizes t = (shape (known w.structs) t).size

  abbrev pub IsSmall : PlainType → Type 0
  IsSmall t = sizes t ≤ 65536

  -- no object is too large, and a field lies in its struct
  pub record AreSmall : Type 0 where
    pub globals : EachGlobal IsSmall w.globals
    pub parts : (s f : List ℕ) (u : PlainType) → field_type (fields_named (known w.structs) s) f ≡ Some u → IsSmall (Named s) → IsSmall u
    pub offsets : (s f : List ℕ) → offset_named (fields_named (known w.structs) s) f ≤ 65536

  module _ (f : PlainFunc) where
    abbrev pub g : NumberedFunc
    g = resolved_func (scope_of w) f

    abbrev pub IsKnown : List ℕ → Type 0
    IsKnown r = register_number f r < length g.regs

    known_here : (r : List ℕ) → has (names_of (regs_of f)) r ≡ true → IsKnown r
    known_here r h =
        let a = number_in (λ (s : PlainBinding). s.name) (regs_of f) r h in
        let c = length-map (regs_of f) (λ (s : PlainBinding). s.ty) in
        omega arith

    all_known : (p : CheckPlace) (rs : List (List ℕ)) → Pass (registers_known f p rs) → Each IsKnown rs
    all_known p [] h = tt
    all_known p (r ∷ rs) h = (
      known_here r (holds (has (names_of (regs_of f)) r) (Unknown r) p (registers_known f p rs) h),
      all_known p rs (behind (has (names_of (regs_of f)) r) (Unknown r) p (registers_known f p rs) h),
    )

    of_type : (r : List ℕ) (t : PlainType) → IsKnown r → type_named f r ≡ t → Has g (register_number f r) t
    of_type r t k e = record { there = k; ty = e }

    number_type : (r : List ℕ) → IsKnown r → is_number f r ≡ true → Has g (register_number f r) U32
    number_type r k h = of_type r U32 k (same_sound (type_named f r) U32 h)

    -- ---- calls

    arguments : (args : List (List ℕ)) → Each IsKnown args → (k : ℕ) → k < length args → Has g (get_or (map (register_number f) args) k 0) (get_or (map (type_named f) args) k U32)
    arguments [] h k l = absurd (omega arith)
    arguments (a ∷ args) h zero l = of_type a (type_named f a) h.0 refl
    arguments (a ∷ args) h (suc k) l = arguments args h.1 k (omega arith)

    keeps : (to : Option (List ℕ)) (r : PlainResult) → Each IsKnown (optional_name to) → takes_result r (kept_type f to) ≡ true → KeepsResult g (optional (register_number f) to) r
    keeps None r k h = tt
    keeps (Some n) r k h = (type_named f n, kept_sound r (type_named f n) h, of_type n (type_named f n) k.0 refl)

    call_typed : (to : Option (List ℕ)) (args : List (List ℕ)) (a : PlainTypes) (r : PlainResult) → length args ≤ 4 → Each IsKnown (optional_name to) → Each IsKnown args
        → fit a (map (type_named f) args) ≡ true → takes_result r (kept_type f to) ≡ true
        → CallTyped g (optional (register_number f) to) (map (register_number f) args) a r
    call_typed to args a r few kt ka h t =
        let n = length-map args (register_number f) in
        let m = length-map args (type_named f) in
        let c = fit_count a (map (type_named f) args) h in
        record {
          count = n ∙ sym m ∙ c;
          few = omega arith;
          arguments = λ k l.
              let i : k < length args = omega arith in
              let j : k < length (map (type_named f) args) = omega arith in
              let x = arguments args ka k i in
              record { there = x.there; ty = x.ty ∙ fit_each a (map (type_named f) args) h k j };
          outcome = keeps to r kt t;
        }

    called_as : (h : NumberedFunc) (a : PlainTypes) (r : PlainResult) (to : Option ℕ) (args : List ℕ) → Callee h.params h.outcome ≡ Callee a r → CallTyped g to args a r → CallTyped g to args h.params h.outcome
    called_as h a r to args e c =
        subst (λ (y : PlainTypes). CallTyped g to args y h.outcome) (sym (params_same h.params a h.outcome r e))
        (subst (λ (y : PlainResult). CallTyped g to args a y) (sym (outcome_same h.params a h.outcome r e)) c)

    -- ---- addresses

    module _ (locals : EachBinding IsSmall f.locals) (small : AreSmall) (registers : Each PointsWell (regs_of f)) where
      abbrev AddrOf : List ℕ → PlainType → numbered.Named → Type 0
      AddrOf x t d = (u : PlainType) × (t ≡ Pointer u) × IsSmall u × IsThere (resolve w) g d

      local_of : (x : List ℕ) (t : PlainType) → is_address (binding_type f.locals x) t ≡ true → AddrOf x t (TheLocal (number_of (names_of f.locals) x))
      local_of x t h =
          let a = is_address_sound (binding_type f.locals x) t h in
          let b = binding_found IsSmall f.locals x a.0 locals a.1 in
          let n = length-map f.locals (λ (l : PlainBinding). shape (known w.structs) l.ty) in
          let c = b.0 in
          (a.0, a.2, b.1, omega arith)

      periph_of : (x : List ℕ) (t : PlainType) → has (map (λ (q : Peripheral). q.name) w.periphs) x ≡ true → is_port t ≡ true → AddrOf x t (ThePeriph (number_of (map (λ (q : Peripheral). q.name) w.periphs) x))
      unfolding resolve
      periph_of x t k h =
          let a = is_port_sound t h in
          let n = number_in (λ (q : Peripheral). q.name) w.periphs x k in
          let m = length-map w.periphs window_of in
          (target_of t, a.0, integer_size (known w.structs) (target_of t) a.1, omega arith)

      global_of : (x : List ℕ) (t : PlainType) → is_address (global_type w.globals x) t ≡ true → AddrOf x t (TheGlobal (number_of (map (λ (y : PlainGlobal). y.name) w.globals) x))
      unfolding resolve
      global_of x t h =
          let a = is_address_sound (global_type w.globals x) t h in
          let b = global_found IsSmall w.globals x a.0 small.globals a.1 in
          let n = length-map w.globals (resolved_global (scope_of w)) in
          let c = b.0 in
          (a.0, a.2, b.1, omega arith)

      outer_by : (b : Bool) (x : List ℕ) (t : PlainType) → has (map (λ (q : Peripheral). q.name) w.periphs) x ≡ b
          → (if b then is_port t else is_address (global_type w.globals x) t) ≡ true
          → AddrOf x t (if b then ThePeriph (number_of (map (λ (q : Peripheral). q.name) w.periphs) x) else TheGlobal (number_of (map (λ (y : PlainGlobal). y.name) w.globals) x))
      outer_by true x t e h = periph_of x t e h
      outer_by false x t e h = global_of x t h

      named_of : (b : Bool) (x : List ℕ) (t : PlainType)
          → (if b then is_address (binding_type f.locals x) t
          else if has (map (λ (q : Peripheral). q.name) w.periphs) x then is_port t
          else is_address (global_type w.globals x) t) ≡ true
          → AddrOf x t (if b then TheLocal (number_of (names_of f.locals) x)
          else if has (map (λ (q : Peripheral). q.name) w.periphs) x then ThePeriph (number_of (map (λ (q : Peripheral). q.name) w.periphs) x)
          else TheGlobal (number_of (map (λ (y : PlainGlobal). y.name) w.globals) x))
      named_of true x t h = local_of x t h
      named_of false x t h = outer_by (has (map (λ (q : Peripheral). q.name) w.periphs) x) x t refl h

      address_of : (x : List ℕ) (t : PlainType) → is_address_of w f x t ≡ true → AddrOf x t (named_by (scope_of w) f x)
      address_of x t h = named_of (has (names_of f.locals) x) x t h

      -- ---- parts

      elements_at : (ss : List PlainBinding) (k : ℕ) → Each PointsWell ss → HasElements (target_of (get_or (types_of ss) k U32))
      elements_at [] k h = tt
      elements_at (s ∷ ss) zero h = h.0
      elements_at (s ∷ ss) (suc k) h = elements_at ss k h.1

      elements : (r : List ℕ) → IsKnown r → HasElements (target_of (type_named f r))
      elements r k = elements_at (regs_of f) (register_number f r) registers

      abbrev Here : numbered.NumberedInst → Type 0
      Here i = InstTyped (resolve w) sizes g i

      elem_typed : (to base i : List ℕ) → IsKnown to → IsKnown base → IsKnown i → HasElements (target_of (type_named f base))
          → (is_number f i && is_element (type_named f base) (type_named f to)) ≡ true → Here (resolved_inst (scope_of w) f (inst.Elem to base i))
      elem_typed to base i kt kb ki e h =
          let c = and_parts (is_number f i) (is_element (type_named f base) (type_named f to)) h in
          let s = element_sound (type_named f base) (type_named f to) c.1 in
          record {
            element = element_of (target_of (type_named f base));
            part = record {
              whole = target_of (type_named f base);
              from = of_type base (Pointer (target_of (type_named f base))) kb s.0;
              held = of_type to (Pointer (element_of (target_of (type_named f base)))) kt s.1;
              smaller = element_smaller (known w.structs) (target_of (type_named f base)) e;
            };
            by = number_type i ki c.0;
            exact = refl;
          }

      field_pointer : (t u : PlainType) (field : List ℕ) (to base : ℕ) → Has g to u → Has g base (Pointer t) → is_field (known w.structs) (Pointer t) field u ≡ true
          → Here (numbered.Field to base (field_offset (scope_of w) t field))
      field_pointer (Named s) u field to base kt kb h =
          let a = is_address_sound (field_type (fields_named (known w.structs) s) field) u h in
          record {
            field = a.0;
            part = record {
              whole = Named s;
              from = kb;
              held = record { there = kt.there; ty = kt.ty ∙ a.2 };
              smaller = small.parts s field a.0 a.1;
            };
            near = small.offsets s field;
          }
      field_pointer U8 u field to base kt kb h = cc
      field_pointer U16 u field to base kt kb h = cc
      field_pointer U32 u field to base kt kb h = cc
      field_pointer (Pointer t) u field to base kt kb h = cc
      field_pointer (Array n t) u field to base kt kb h = cc
      field_pointer (Callee a r) u field to base kt kb h = cc

      field_base : (b u : PlainType) (field : List ℕ) (to base : ℕ) → Has g to u → Has g base b → is_field (known w.structs) b field u ≡ true
          → Here (numbered.Field to base (field_offset (scope_of w) (target_of b) field))
      field_base (Pointer t) u field to base kt kb h = field_pointer t u field to base kt kb h
      field_base U8 u field to base kt kb h = cc
      field_base U16 u field to base kt kb h = cc
      field_base U32 u field to base kt kb h = cc
      field_base (Array n t) u field to base kt kb h = cc
      field_base (Named n) u field to base kt kb h = cc
      field_base (Callee a r) u field to base kt kb h = cc

      cell_typed : (pointer register : List ℕ) → IsKnown pointer → IsKnown register → holds_cell (type_named f pointer) (type_named f register) ≡ true
          → CellTyped g (register_number f pointer) (register_number f register) (target_of (type_named f pointer))
      cell_typed pointer register kp kr h =
          let s = held_sound (type_named f pointer) (type_named f register) h in
          record { from = of_type pointer _ kp s.0; held = of_type register _ kr s.1; is_cell = s.2 }

      -- ---- the instructions

      inst_typed : (p : CheckPlace) (i : Inst) → HasWord i → HasFewArguments i → Pass (inst_names w f p i) → inst_fits w f i ≡ true → Here (resolved_inst (scope_of w) f i)
      unfolding inst_fits resolve
      inst_typed p (inst.Const to v) n u h e = let k = all_known p (to ∷ []) h in (number_type to k.0 e, n)
      inst_typed p (inst.Move to from) n v h e =
          let k = all_known p (to ∷ from ∷ []) h in
          (type_named f from, of_type to (type_named f from) k.0 (same_sound (type_named f to) (type_named f from) e), of_type from (type_named f from) k.1.0 refl)
      inst_typed p (inst.Bin op to a b) n v h e =
          let k = all_known p (to ∷ a ∷ b ∷ []) h in
          let c = and_parts (is_number f to) (is_number f a && is_number f b) e in
          let d = and_parts (is_number f a) (is_number f b) c.1 in
          (number_type to k.0 c.0, number_type a k.1.0 d.0, number_type b k.1.1.0 d.1)
      inst_typed p (inst.Cmp op to a b) n v h e =
          let k = all_known p (to ∷ a ∷ b ∷ []) h in
          let c = and_parts (is_number f to) (is_number f a && is_number f b) e in
          let d = and_parts (is_number f a) (is_number f b) c.1 in
          (number_type to k.0 c.0, number_type a k.1.0 d.0, number_type b k.1.1.0 d.1)
      inst_typed p (inst.Addr to x) n v h e =
          let k = all_known p (to ∷ []) (left (registers_known f p (to ∷ [])) (is_known (has_address w f x) x p ∷ []) h) in
          let a = address_of x (type_named f to) e in
          record { target = a.0; held = of_type to (Pointer a.0) k.0 a.1; small = a.2; there = a.3 }
      inst_typed p (inst.FAddr to x) n v h e =
          let k = all_known p (to ∷ []) (left (registers_known f p (to ∷ [])) (is_known (has_func w x) x p ∷ []) h) in
          let t = is_type_sound (func_type (funcs_of w) x) (type_named f to) e in
          let a = func_found (scope_of w) (funcs_of w) x (type_named f to) t in
          let n = length-map (funcs_of w) (resolved_func (scope_of w)) in
          let b = a.0 in
          (of_type to _ k.0 (sym a.1), omega arith)
      inst_typed p (inst.Elem to base i) n v h e =
          let k = all_known p (to ∷ base ∷ i ∷ []) h in
          elem_typed to base i k.0 k.1.0 k.1.1.0 (elements base k.1.0) e
      inst_typed p (inst.Field to base field) n v h e =
          let k = all_known p (to ∷ base ∷ []) h in
          field_base (type_named f base) (type_named f to) field (register_number f to) (register_number f base) (of_type to (type_named f to) k.0 refl) (of_type base (type_named f base) k.1.0 refl) e
      inst_typed p (inst.Load to from) n v h e = let k = all_known p (to ∷ from ∷ []) h in cell_typed from to k.1.0 k.0 e
      inst_typed p (inst.Store to from) n v h e = let k = all_known p (to ∷ from ∷ []) h in cell_typed to from k.0 k.1.0 e
      inst_typed p (inst.Call to x args) n v h e =
          let front : Checks = registers_known f p (optional_name to) ++ is_known (has_func w x) x p ∷ [] in
          let fp = left front (registers_known f p args) h in
          let kt = all_known p (optional_name to) (left (registers_known f p (optional_name to)) (is_known (has_func w x) x p ∷ []) fp) in
          let ka = all_known p args (right front (registers_known f p args) h) in
          let c = call_sound (func_type (funcs_of w) x) (map (type_named f) args) (kept_type f to) e in
          let a = func_found (scope_of w) (funcs_of w) x (Callee c.params c.outcome) c.is in
          let n = length-map (funcs_of w) (resolved_func (scope_of w)) in
          let b = a.0 in
          let g2 : NumberedFunc = func_at (resolve w) (number_of (map (λ (y : PlainFunc). y.name) (funcs_of w)) x) in
          (omega arith, called_as g2 c.params c.outcome _ _ a.1 (call_typed to args c.params c.outcome v kt ka c.fits c.takes))
      inst_typed p (inst.ICall to x args) n v h e =
          let kt = all_known p (optional_name to) (left (registers_known f p (optional_name to)) (registers_known f p (x ∷ args)) h) in
          let ka = all_known p (x ∷ args) (right (registers_known f p (optional_name to)) (registers_known f p (x ∷ args)) h) in
          let c = call_sound (Some (type_named f x)) (map (type_named f) args) (kept_type f to) e in
          let q : type_named f x ≡ Callee c.params c.outcome = let i = c.is in cc in
          record { params = c.params; outcome = c.outcome; held = of_type x _ ka.0 q; call = call_typed to args c.params c.outcome v kt ka.1 c.fits c.takes }

      -- ---- the ends of blocks

      label_there : (l : List ℕ) → has (labels_of f) l ≡ true → number_of (labels_of f) l < length g.blocks
      label_there l h =
          let a = number_in (λ (b : Block). b.label) f.blocks l h in
          let n = length-map f.blocks (resolved_block (scope_of w) f) in
          omega arith

      label_holds : (p : CheckPlace) (l : List ℕ) (cs : Checks) → Pass (label_known f p l ∷ cs) → number_of (labels_of f) l < length g.blocks
      label_holds p l cs h = label_there l (holds (has (labels_of f) l) (Unknown l) p cs h)

      end_typed : (p : CheckPlace) (t : Term) → Pass (term_names f p t) → term_fits f t ≡ true → EndTyped (resolve w) sizes g (resolved_term f t)
      unfolding term_fits
      end_typed p (term.Jump b) h e = λ z. label_holds p b [] h
      end_typed p (term.Branch on a b) h e =
          let k = all_known p (on ∷ []) (left (registers_known f p (on ∷ [])) (label_known f p a ∷ label_known f p b ∷ []) h) in
          let l = right (registers_known f p (on ∷ [])) (label_known f p a ∷ label_known f p b ∷ []) h in
          (number_type on k.0 e, label_holds p a (label_known f p b ∷ []) l, label_holds p b [] (behind (has (labels_of f) a) (Unknown a) p (label_known f p b ∷ []) l))
      end_typed p (term.Ret None) h e = result_sound f.outcome nothing e
      end_typed p (term.Ret (Some r)) h e =
          let k = all_known p (r ∷ []) h in
          (type_named f r, result_sound f.outcome (gives (type_named f r)) e, of_type r (type_named f r) k.0 refl)

      -- ---- each place

      code_typed : (l : List ℕ) (n : ℕ) (is : List Inst) (t : Term) → Each HasWord is → Each HasFewArguments is → Pass (code_checks w f l n is t)
          → (k : ℕ) → HereTyped (resolve w) sizes g (here_in (map (resolved_inst (scope_of w) f) is) (resolved_term f t) k)
      code_typed l n [] t v u h k =
          let p : CheckPlace = place.Inst f.name l n in
          end_typed p t (left (term_names f p t) (check (term_fits f t) IllTyped p ∷ []) h)
          (holds (term_fits f t) IllTyped p [] (right (term_names f p t) (check (term_fits f t) IllTyped p ∷ []) h))
      code_typed l n (i ∷ is) t v u h zero =
          let p : CheckPlace = place.Inst f.name l n in
          let own = left (inst_names w f p i ++ check (inst_fits w f i) IllTyped p ∷ []) (code_checks w f l (suc n) is t) h in
          inst_typed p i v.0 u.0 (left (inst_names w f p i) (check (inst_fits w f i) IllTyped p ∷ []) own)
          (holds (inst_fits w f i) IllTyped p [] (right (inst_names w f p i) (check (inst_fits w f i) IllTyped p ∷ []) own))
      code_typed l n (i ∷ is) t v u h (suc k) =
          let p : CheckPlace = place.Inst f.name l n in
          code_typed l (suc n) is t v.1 u.1 (right (inst_names w f p i ++ check (inst_fits w f i) IllTyped p ∷ []) (code_checks w f l (suc n) is t) h) k

      pub blocks_typed : (bs : List Block) → Each (λ (b : Block). Each HasWord b.insts) bs → Each (λ (b : Block). Each HasFewArguments b.insts) bs → Pass (blocks_checks w f bs)
          → (b k : ℕ) → HereTyped (resolve w) sizes g (here_in (get_or (map (resolved_block (scope_of w) f) bs) b no_block).insts (get_or (map (resolved_block (scope_of w) f) bs) b no_block).term k)
      blocks_typed [] v u h b k = λ z. z
      blocks_typed (x ∷ bs) v u h zero k = code_typed x.label 0 x.insts x.term v.0 u.0 (left (code_checks w f x.label 0 x.insts x.term) (blocks_checks w f bs) h) k
      blocks_typed (x ∷ bs) v u h (suc b) k = blocks_typed bs v.1 u.1 (right (code_checks w f x.label 0 x.insts x.term) (blocks_checks w f bs) h) b k
