-- The places of the checks that fail: each names something of the firmware.
use Rattle.std.proofs.Common.{◌≡◌, ◌≤◌, ◌⊎◌, inl, inr, ℕ, suc, ◌+◌, List, [], ◌∷◌, ◌++◌, length, map, Bool, true, false, Option, Some, None, refl, subst, arith, nat_le}
use Rattle.base_laws.specs.Lists.{Each}
use Rattle.base_laws.proofs.Lists.{each_both}
use Rattle.ir_model.specs.declared.check.CheckKind.{CheckKind}
use Rattle.ir_model.specs.declared.check.CheckKind.TheVariants.{IllTyped, BadInit, ObjectTooLarge, FrameTooLarge}
use Rattle.ir_model.specs.declared.check.CheckPlace.{CheckPlace}
use Rattle.ir_model.specs.declared.check.CheckPlace.TheVariants as place
use Rattle.ir_model.specs.declared.firmware.Inst.{Inst}
use Rattle.ir_model.specs.declared.firmware.Inst.TheVariants as inst
use Rattle.ir_model.specs.declared.firmware.Term.{Term}
use Rattle.ir_model.specs.declared.firmware.Term.TheVariants as term
use Rattle.ir_model.specs.declared.firmware.Block.{Block}
use Rattle.ir_model.specs.declared.firmware.Cell.{Cell}
use Rattle.ir_model.specs.declared.firmware.Cell.TheVariants.{Word, Function, Address}
use Rattle.ir_model.specs.declared.firmware.Peripheral.{Peripheral}
use Rattle.ir_model.specs.Types.{PlainType, U8, U16, U32, Pointer, Array, Named, Callee, PlainTypes, none, more, PlainResult, nothing, gives, is_register_type}
use Rattle.ir_model.specs.Plain.{PlainBinding, PlainStruct, PlainGlobal, PlainFunc, PlainFile, PlainFirmware, names_of}
use Rattle.ir_model.specs.Layout.{CellPlace, known, shape}
use Rattle.ir_model.specs.Frames.{frame_size}
use Rattle.ir_model.specs.Rules.{inst_fits, term_fits}
use Rattle.ir_model.specs.Typing.{Failing, Checks, check, first_failing, is_new, is_known, has_address, has_func, label_known, object_limit, type_checks, row_checks, result_checks, field_checks, struct_checks, structs_checks, periph_checks, cell_checks, init_checks, global_checks, globals_checks, func_name_checks, file_checks, register_checks, outcome_checks, local_checks, label_checks, registers_known, optional_name, inst_names, term_names, code_checks, blocks_checks, frame_limit, func_checks}
use Rattle.ir_model.proofs.Passing.{append_right}

-- the first of joined lists of checks
pub either : (xs ys : Checks) (e : Failing) → first_failing (xs ++ ys) ≡ Some e → (first_failing xs ≡ Some e) ⊎ ((first_failing xs ≡ None) × (first_failing ys ≡ Some e))
either [] ys e h = inr (refl, h)
either (None ∷ xs) ys e h = either xs ys e h
either (Some x ∷ xs) ys e h = inl h

module _ (Q : CheckPlace → Type 0) where
  abbrev pub Keeps : Option Failing → Type 0
  Keeps None = Unit {0}
  Keeps (Some e) = Q e.place

  same_place : (x e : Failing) → Some x ≡ Some e → Q x.place → Q e.place
  same_place x e h q = let s : x ≡ e = cc in subst (λ (y : Failing). Q y.place) s q

  pub keeps_first : (cs : Checks) (e : Failing) → Each Keeps cs → first_failing cs ≡ Some e → Q e.place
  keeps_first [] e k h = cc
  keeps_first (None ∷ cs) e k h = keeps_first cs e k.1 h
  keeps_first (Some x ∷ cs) e k h = same_place x e h k.0

  pub one : (b : Bool) (k : CheckKind) (p : CheckPlace) → Q p → Keeps (check b k p)
  one true k p q = tt
  one false k p q = q

  module _ (p : CheckPlace) (q : Q p) where
    mutual
      types : (ds es : List (List ℕ)) (t : PlainType) → Each Keeps (type_checks ds es p t)
      types ds es U8 = tt
      types ds es U16 = tt
      types ds es U32 = tt
      types ds es (Pointer t) = types ds ds t
      types ds es (Array n t) = types ds es t
      types ds es (Named n) = (one _ _ p q, tt)
      types ds es (Callee a r) = each_both Keeps (row_checks ds p a) (result_checks ds p r) (rows ds a) (results ds r)

      rows : (ds : List (List ℕ)) (ts : PlainTypes) → Each Keeps (row_checks ds p ts)
      rows ds none = tt
      rows ds (more t ts) = each_both Keeps (type_checks ds ds p t) (row_checks ds p ts) (types ds ds t) (rows ds ts)

      results : (ds : List (List ℕ)) (r : PlainResult) → Each Keeps (result_checks ds p r)
      results ds nothing = tt
      results ds (gives t) = types ds ds t

    fields : (ds es seen : List (List ℕ)) (ss : List PlainBinding) → Each Keeps (field_checks ds es p seen ss)
    fields ds es seen [] = tt
    fields ds es seen (s ∷ ss) =
        (one _ _ p q, each_both Keeps (type_checks ds es p s.ty) (field_checks ds es p (seen ++ s.name ∷ []) ss) (types ds es s.ty) (fields ds es (seen ++ s.name ∷ []) ss))

    registers : (ds seen : List (List ℕ)) (ss : List PlainBinding) → Each Keeps (register_checks ds p seen ss)
    registers ds seen [] = tt
    registers ds seen (s ∷ ss) =
        let first : Checks = is_new seen s.name p ∷ type_checks ds ds p s.ty in
        let last : Checks = check (is_register_type s.ty) IllTyped p ∷ [] in
        each_both Keeps (first ++ last) (register_checks ds p (seen ++ s.name ∷ []) ss)
        (each_both Keeps first last (one _ _ p q, types ds ds s.ty) (one _ _ p q, tt))
        (registers ds (seen ++ s.name ∷ []) ss)

    outcomes : (ds : List (List ℕ)) (r : PlainResult) → Each Keeps (outcome_checks ds p r)
    outcomes ds nothing = tt
    outcomes ds (gives t) = each_both Keeps (type_checks ds ds p t) _ (types ds ds t) (one _ _ p q, tt)

    locals : (w : PlainFirmware) (ds seen : List (List ℕ)) (ss : List PlainBinding) → Each Keeps (local_checks w ds p seen ss)
    locals w ds seen [] = tt
    locals w ds seen (s ∷ ss) =
        let first : Checks = is_new seen s.name p ∷ type_checks ds ds p s.ty in
        let last : Checks = check (nat_le (shape (known w.structs) s.ty).size object_limit) ObjectTooLarge p ∷ [] in
        each_both Keeps (first ++ last) (local_checks w ds p (seen ++ s.name ∷ []) ss)
        (each_both Keeps first last (one _ _ p q, types ds ds s.ty) (one _ _ p q, tt))
        (locals w ds (seen ++ s.name ∷ []) ss)

    labels : (seen : List (List ℕ)) (bs : List Block) → Each Keeps (label_checks p seen bs)
    labels seen [] = tt
    labels seen (b ∷ bs) = (one _ _ p q, labels (seen ++ b.label ∷ []) bs)

    known_registers : (f : PlainFunc) (rs : List (List ℕ)) → Each Keeps (registers_known f p rs)
    known_registers f [] = tt
    known_registers f (r ∷ rs) = (one _ _ p q, known_registers f rs)

    inst_known : (w : PlainFirmware) (f : PlainFunc) (i : Inst) → Each Keeps (inst_names w f p i)
    inst_known w f (inst.Const to v) = known_registers f (to ∷ [])
    inst_known w f (inst.Move to from) = known_registers f (to ∷ from ∷ [])
    inst_known w f (inst.Bin op to a b) = known_registers f (to ∷ a ∷ b ∷ [])
    inst_known w f (inst.Cmp op to a b) = known_registers f (to ∷ a ∷ b ∷ [])
    inst_known w f (inst.Addr to x) = each_both Keeps (registers_known f p (to ∷ [])) (is_known (has_address w f x) x p ∷ []) (known_registers f (to ∷ [])) (one _ _ p q, tt)
    inst_known w f (inst.FAddr to g) = each_both Keeps (registers_known f p (to ∷ [])) (is_known (has_func w g) g p ∷ []) (known_registers f (to ∷ [])) (one _ _ p q, tt)
    inst_known w f (inst.Elem to base i) = known_registers f (to ∷ base ∷ i ∷ [])
    inst_known w f (inst.Field to base field) = known_registers f (to ∷ base ∷ [])
    inst_known w f (inst.Load to from) = known_registers f (to ∷ from ∷ [])
    inst_known w f (inst.Store to from) = known_registers f (to ∷ from ∷ [])
    inst_known w f (inst.Call to g args) =
        let kept : Checks = registers_known f p (optional_name to) in
        let called : Checks = is_known (has_func w g) g p ∷ [] in
        each_both Keeps (kept ++ called) (registers_known f p args) (each_both Keeps kept called (known_registers f (optional_name to)) (one _ _ p q, tt)) (known_registers f args)
    inst_known w f (inst.ICall to g args) =
        each_both Keeps (registers_known f p (optional_name to)) (registers_known f p (g ∷ args)) (known_registers f (optional_name to)) (known_registers f (g ∷ args))

    term_known : (f : PlainFunc) (t : Term) → Each Keeps (term_names f p t)
    term_known f (term.Jump b) = (one _ _ p q, tt)
    term_known f (term.Branch on a b) =
        each_both Keeps (registers_known f p (on ∷ [])) (label_known f p a ∷ label_known f p b ∷ []) (known_registers f (on ∷ [])) (one _ _ p q, (one _ _ p q, tt))
    term_known f (term.Ret v) = known_registers f (optional_name v)

    cells : (w : PlainFirmware) (c : Cell) (t : PlainType) → Each Keeps (cell_checks w p c t)
    cells w (Word n) t = (one _ _ p q, tt)
    cells w (Function f) t = (one _ _ p q, (one _ _ p q, tt))
    cells w (Address x) t = (one _ _ p q, (one _ _ p q, tt))

    inits : (w : PlainFirmware) (cs : List Cell) (ts : List CellPlace) → Each Keeps (init_checks w p cs ts)
    inits w [] ts = tt
    inits w (c ∷ cs) [] = tt
    inits w (c ∷ cs) (t ∷ ts) = each_both Keeps (cell_checks w p c t.ty) (init_checks w p cs ts) (cells w c t.ty) (inits w cs ts)

  -- ---- the parts of a firmware

  pub structs_keep : (ds : List (List ℕ)) (es ss : List PlainStruct) → Each (λ (s : PlainStruct). Q (place.Struct s.name)) ss → Each Keeps (structs_checks ds es ss)
  structs_keep ds es [] h = tt
  structs_keep ds es (s ∷ ss) h =
      let before : List (List ℕ) = map (λ (e : PlainStruct). e.name) es in
      let p : CheckPlace = place.Struct s.name in
      each_both Keeps (struct_checks ds es s) (structs_checks ds (es ++ s ∷ []) ss)
      (each_both Keeps (is_new before s.name p ∷ field_checks ds before p [] s.fields) _ (one _ _ p h.0, fields p h.0 ds before [] s.fields) (one _ _ p h.0, tt))
      (structs_keep ds (es ++ s ∷ []) ss h.1)

  pub periphs_keep : (es qs : List Peripheral) → Each (λ (q : Peripheral). Q (place.Periph q.name)) qs → Each Keeps (periph_checks es qs)
  periphs_keep es [] h = tt
  periphs_keep es (q ∷ qs) h =
      let p : CheckPlace = place.Periph q.name in
      (one _ _ p h.0, (one _ _ p h.0, (one _ _ p h.0, periphs_keep (es ++ q ∷ []) qs h.1)))

  pub globals_keep : (w : PlainFirmware) (seen : List (List ℕ)) (gs : List PlainGlobal) → Each (λ (g : PlainGlobal). Q (place.Global g.name)) gs → Each Keeps (globals_checks w seen gs)
  globals_keep w seen [] h = tt
  globals_keep w seen (g ∷ gs) h =
      let p : CheckPlace = place.Global g.name in
      let ds : List (List ℕ) = map (λ (s : PlainStruct). s.name) w.structs in
      let first : Checks = is_new seen g.name p ∷ type_checks ds ds p g.ty in
      let sizes : Checks =
      check (nat_le (shape (known w.structs) g.ty).size object_limit) ObjectTooLarge p ∷ check (nat_le (length g.init) (length (shape (known w.structs) g.ty).cells)) BadInit p ∷ [] in
      each_both Keeps (global_checks w seen g) (globals_checks w (seen ++ g.name ∷ []) gs)
      (each_both Keeps (first ++ sizes) (init_checks w p g.init (shape (known w.structs) g.ty).cells)
      (each_both Keeps first sizes (one _ _ p h.0, types p h.0 ds ds g.ty) (one _ _ p h.0, (one _ _ p h.0, tt)))
      (inits p h.0 w g.init (shape (known w.structs) g.ty).cells))
      (globals_keep w (seen ++ g.name ∷ []) gs h.1)

  func_names_keep : (seen : List (List ℕ)) (fs : List PlainFunc) → Each (λ (f : PlainFunc). Q (place.Func f.name)) fs → Each Keeps (func_name_checks seen fs)
  func_names_keep seen [] h = tt
  func_names_keep seen (f ∷ fs) h = (one _ _ (place.Func f.name) h.0, func_names_keep (seen ++ f.name ∷ []) fs h.1)

  pub files_keep : (es seen : List (List ℕ)) (fs : List PlainFile) → Each (λ (f : PlainFile). Q (place.File f.name)) fs → Each (λ (f : PlainFile). Each (λ (g : PlainFunc). Q (place.Func g.name)) f.funcs) fs
      → Each Keeps (file_checks es seen fs)
  files_keep es seen [] h g = tt
  files_keep es seen (f ∷ fs) h g =
      each_both Keeps (is_new es f.name (place.File f.name) ∷ func_name_checks seen f.funcs) _
      (one _ _ (place.File f.name) h.0, func_names_keep seen f.funcs g.0)
      (files_keep (es ++ f.name ∷ []) (seen ++ map (λ (g : PlainFunc). g.name) f.funcs) fs h.1 g.1)

  -- ---- code

  codes : (w : PlainFirmware) (f : PlainFunc) (l : List ℕ) (k : ℕ) (is : List Inst) (t : Term) → ((m : ℕ) → k ≤ m → m ≤ k + length is → Q (place.Inst f.name l m)) → Each Keeps (code_checks w f l k is t)
  codes w f l k [] t h =
      let q : Q (place.Inst f.name l k) = h k (omega arith) (omega arith) in
      each_both Keeps (term_names f (place.Inst f.name l k) t) (check (term_fits f t) IllTyped (place.Inst f.name l k) ∷ []) (term_known (place.Inst f.name l k) q f t) (one _ _ (place.Inst f.name l k) q, tt)
  codes w f l k (i ∷ is) t h =
      let q : Q (place.Inst f.name l k) = h k (omega arith) (omega arith) in
      let names : Checks = inst_names w f (place.Inst f.name l k) i in
      let fits : Checks = check (inst_fits w f i) IllTyped (place.Inst f.name l k) ∷ [] in
      each_both Keeps (names ++ fits) (code_checks w f l (suc k) is t)
      (each_both Keeps names fits (inst_known (place.Inst f.name l k) q w f i) (one _ _ (place.Inst f.name l k) q, tt))
      (codes w f l (suc k) is t (λ m a b. h m (omega arith) (omega arith)))

  -- each place of a block
  abbrev pub HasPlaces : PlainFunc → Block → Type 0
  HasPlaces f b = (m : ℕ) → m ≤ length b.insts → Q (place.Inst f.name b.label m)

  blocks_keep : (w : PlainFirmware) (f : PlainFunc) (bs : List Block) → Each (HasPlaces f) bs → Each Keeps (blocks_checks w f bs)
  blocks_keep w f [] h = tt
  blocks_keep w f (b ∷ bs) h =
      each_both Keeps (code_checks w f b.label 0 b.insts b.term) (blocks_checks w f bs)
      (codes w f b.label 0 b.insts b.term (λ m a c. h.0 m (omega arith))) (blocks_keep w f bs h.1)

  -- a function whose labels are new where its code is checked
  pub func_keeps : (w : PlainFirmware) (f : PlainFunc) (e : Failing) → Q (place.Func f.name) → (first_failing (label_checks (place.Func f.name) [] f.blocks) ≡ None → Each (HasPlaces f) f.blocks)
      → first_failing (func_checks w f) ≡ Some e → Q e.place
  func_keeps w f e q h x =
      let p : CheckPlace = place.Func f.name in
      let ds : List (List ℕ) = map (λ (s : PlainStruct). s.name) w.structs in
      let n : ℕ = frame_size (known w.structs) f in
      let bindings : Checks =
      register_checks ds p [] f.params
      ++ outcome_checks ds p f.outcome
      ++ local_checks w ds p (names_of f.params) f.locals
      ++ register_checks ds p (names_of f.params ++ names_of f.locals) f.regs in
      let frame : Checks = check (nat_le n frame_limit) (FrameTooLarge n) p ∷ label_checks p [] f.blocks in
      by_part w f e q h bindings frame
      (each_both Keeps _ (register_checks ds p (names_of f.params ++ names_of f.locals) f.regs)
      (each_both Keeps _ (local_checks w ds p (names_of f.params) f.locals)
      (each_both Keeps (register_checks ds p [] f.params) (outcome_checks ds p f.outcome) (registers p q ds [] f.params) (outcomes p q ds f.outcome))
      (locals p q w ds (names_of f.params) f.locals))
      (registers p q ds (names_of f.params ++ names_of f.locals) f.regs))
      (one _ _ p q, labels p q [] f.blocks)
      (λ i. labels_pass (nat_le n frame_limit) (FrameTooLarge n) p (label_checks p [] f.blocks) i)
      x
    where
      labels_pass : (b : Bool) (k : CheckKind) (p : CheckPlace) (cs : Checks) → first_failing (check b k p ∷ cs) ≡ None → first_failing cs ≡ None
      labels_pass true k p cs i = i
      labels_pass false k p cs i = cc

      by_part : (w : PlainFirmware) (f : PlainFunc) (e : Failing) → Q (place.Func f.name) → (first_failing (label_checks (place.Func f.name) [] f.blocks) ≡ None → Each (HasPlaces f) f.blocks)
          → (bindings frame : Checks) → Each Keeps bindings → Each Keeps frame → (first_failing frame ≡ None → first_failing (label_checks (place.Func f.name) [] f.blocks) ≡ None)
          → first_failing (bindings ++ frame ++ blocks_checks w f f.blocks) ≡ Some e → Q e.place
      by_part w f e q h bindings frame s r l x =
          elim (either (bindings ++ frame) (blocks_checks w f f.blocks) e x) [
            | inl a ↦ keeps_first (bindings ++ frame) e (each_both Keeps bindings frame s r) a
            | inr b ↦ keeps_first (blocks_checks w f f.blocks) e (blocks_keep w f f.blocks (h (l (append_right bindings frame b.0)))) b.1
          ]
