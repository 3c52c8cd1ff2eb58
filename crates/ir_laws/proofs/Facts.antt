-- What follows of a state that fits.
use Rattle.std.proofs.Common.{map, ◌∙◌, ◌≡◌, ℕ, zero, suc, ◌<◌, ◌≤◌, Bool, List, [], ◌∷◌, length, Option, Some, None, refl, sym, ap, get_or, subst, arith}
use Rattle.std.proofs.lemmas.List.{length-map}
use Rattle.ir_model.specs.Types.{PlainType, U32, Callee, Pointer, PlainResult, nothing, gives}
use Rattle.ir_model.specs.Layout.{Shape, empty}
use Rattle.ir_model.specs.Resolved.{Program, NumberedGlobal, no_global, Value, Code, At, Instance, Const, Move, Bin, Cmp, Addr, FAddr, Elem, Field, Load, Store, Call, ICall, Ret, NumberedFunc, Here, Does, Ends, func_at, block_at, here, register_type}
use Rattle.ir_model.specs.State.{Object, object_of, Memory, Frame}
use Rattle.ir_model.specs.Step.{register, result_register}
use Rattle.ir_model.specs.Typing.{object_limit}
use Rattle.ir_laws.specs.Typed.{number, null, code, at, CellTyped, ICallTyped, Has, InstTyped, EndTyped, HereTyped, Fits, Typed}
use Rattle.ir_laws.specs.Sets.{ObjectSets, Register, ReadsAt, WritesAt, CallsAt, IsRead, IsWritten}
use Rattle.ir_laws.specs.States.{MemoryFits, AnswerFits, FrameFits, FramesFit, IsWord, IsPointer, IsTarget, Alike, global_shapes, Agrees}
use Rattle.ir_laws.specs.Runs.{NumbersAreWords, PointersAreOfObjects, ElementsAreSmall, ContentsAreWhole, ReturnsAgreeWithCalls, AccessesAreInSets}
use Rattle.ir_laws.proofs.Steps.{call_inside}

module _ (p : Program) (z : PlainType → ℕ) (S : ObjectSets) where
  -- the element of a pointer that is not null is no larger than an object
  element_small : (fr : Frame) (to base index size : ℕ) (o : Instance) (k : ℕ) → FrameFits p z S fr → InstTyped p z (func_at p fr.func) (Elem to base index size) → register fr base ≡ At o k → size ≤ 65536
  element_small fr to base index size o k g t e =
      let f : Fits p z (S (Register fr.func base)) (Pointer t.part.whole) (At o k) = subst (λ (v : Value). Fits p z (S (Register fr.func base)) (Pointer t.part.whole) v) e (subst (λ (u : PlainType). Fits p z (S (Register fr.func base)) u (register fr base)) t.part.from.ty (g.regs base)) in
      let s = t.part.smaller (target_small (S (Register fr.func base)) t.part.whole o k f) in
      let x = t.exact in
      omega arith
    where
      target_small : (X : Object → Bool) (u : PlainType) (o : Instance) (k : ℕ) → Fits p z X (Pointer u) (At o k) → z u ≤ object_limit
      target_small X u o k (at q j e l i s) = s

  -- ---- registers

  word_value : (X : Object → Bool) (v : Value) → Fits p z X U32 v → IsWord v
  word_value X v (number n e l) = record { n = n; is = refl; below = l }
  word_value X v (null e) = cc

  number_register : (fr : Frame) (r : ℕ) → FrameFits p z S fr → Has (func_at p fr.func) r U32 → IsWord (register fr r)
  number_register fr r g h = word_value (S (Register fr.func r)) (register fr r) (subst (λ (t : PlainType). Fits p z (S (Register fr.func r)) t (register fr r)) h.ty (g.regs r))

  pointer_value : (X : Object → Bool) (u : PlainType) (o : Instance) (k : ℕ) → Fits p z X (Pointer u) (At o k) → IsPointer p X o k
  pointer_value X u o k (at q j e l i s) = record { known = e; offset = l; placed = i }

  pointer_register : (fr : Frame) (r : ℕ) (u : PlainType) (o : Instance) (k : ℕ) → FrameFits p z S fr → Has (func_at p fr.func) r (Pointer u) → register fr r ≡ At o k → IsPointer p (S (Register fr.func r)) o k
  pointer_register fr r u o k g h e =
      pointer_value (S (Register fr.func r)) u o k
      (subst (λ (v : Value). Fits p z (S (Register fr.func r)) (Pointer u) v) e (subst (λ (t : PlainType). Fits p z (S (Register fr.func r)) t (register fr r)) h.ty (g.regs r)))

  -- ---- contents

  alike : (vss : List (List Value)) (ss : List Shape) → length vss ≡ length ss → ((l : ℕ) → length (get_or vss l []) ≡ length (get_or ss l empty).cells) → Alike vss ss
  alike [] [] n h = tt
  alike [] (s ∷ ss) n h = absurd (omega arith)
  alike (vs ∷ vss) [] n h = absurd (omega arith)
  alike (vs ∷ vss) (s ∷ ss) n h = (h 0, alike vss ss (omega arith) (λ l. h (suc l)))

  locals_alike : (fr : Frame) → FrameFits p z S fr → Alike fr.locals (func_at p fr.func).locals
  locals_alike fr g = alike fr.locals (func_at p fr.func).locals g.objects (λ l. (g.locals l).count)

  shape_of : (gs : List NumberedGlobal) (g : ℕ) → get_or (map (λ (x : NumberedGlobal). x.shape) gs) g empty ≡ (get_or gs g no_global).shape
  shape_of [] g = refl
  shape_of (x ∷ gs) zero = refl
  shape_of (x ∷ gs) (suc g) = shape_of gs g

  globals_alike : (m : Memory) → MemoryFits p z S m → Alike m.globals (global_shapes p)
  globals_alike m g =
      alike m.globals (global_shapes p) (g.objects ∙ sym (length-map p.globals (λ (x : NumberedGlobal). x.shape)))
      (λ l. (g.globals l).count ∙ ap (λ (s : Shape). length s.cells) (sym (shape_of p.globals l)))

  -- ---- what the running frame reaches

  loads_needed : (fr : Frame) (to from : ℕ) (t : PlainType) (o : Instance) (k : ℕ) → FrameFits p z S fr → CellTyped (func_at p fr.func) from to t → here p fr.func fr.block fr.place ≡ Does (Load to from t) → register fr from ≡ At o k → IsRead p S fr.func (object_of o)
  loads_needed fr to from t o k g h e q =
      (fr.block, fr.place, subst (λ (x : Here). ReadsAt S fr.func x (object_of o)) (sym e) (pointer_register fr from t o k g h.from q).known)

  stores_needed : (fr : Frame) (to from : ℕ) (t : PlainType) (o : Instance) (k : ℕ) → FrameFits p z S fr → CellTyped (func_at p fr.func) to from t → here p fr.func fr.block fr.place ≡ Does (Store to from t) → register fr to ≡ At o k → IsWritten p S fr.func (object_of o)
  stores_needed fr to from t o k g h e q =
      (fr.block, fr.place, subst (λ (x : Here). WritesAt S fr.func x (object_of o)) (sym e) (pointer_register fr to t o k g h.from q).known)

  icalls_needed : (fr : Frame) (to : Option ℕ) (r : ℕ) (args : List ℕ) (h : ℕ) → FrameFits p z S fr → ICallTyped (func_at p fr.func) to r args → here p fr.func fr.block fr.place ≡ Does (ICall to r args) → register fr r ≡ Code h → IsTarget p S fr h
  icalls_needed fr to r args h g t e q =
      by (subst (λ (v : Value). Fits p z (S (Register fr.func r)) (Callee t.params t.outcome) v) q (subst (λ (u : PlainType). Fits p z (S (Register fr.func r)) u (register fr r)) t.held.ty (g.regs r)))
    where
      by : Fits p z (S (Register fr.func r)) (Callee t.params t.outcome) (Code h) → IsTarget p S fr h
      by (code j s x l) = record { calls = subst (λ (y : Here). CallsAt p S fr.func y h) (sym e) (x, s ∙ sym t.held.ty); there = l }

  -- ---- returns

  waits_inside : (fr c : Frame) (rest : List Frame) → FramesFit p z S (fr ∷ c ∷ rest) → c.place < length (block_at p c.func c.block).insts
  waits_inside fr c rest g = call_inside p S c.func fr.func (block_at p c.func c.block).insts (block_at p c.func c.block).term c.place g.1.calls

  module _ (typed : Typed p z) where
    kept_below : (g : NumberedFunc) (h : Here) (q : ℕ) → HereTyped p z g h → result_register h ≡ Some q → q < length g.regs
    kept_below g (Does (Call (Some to) f args)) q t e = let x = t.1.outcome.2.there in let y : to ≡ q = cc in subst (λ (i : ℕ). i < length g.regs) y x
    kept_below g (Does (ICall (Some to) f args)) q t e = let x = t.call.outcome.2.there in let y : to ≡ q = cc in subst (λ (i : ℕ). i < length g.regs) y x
    kept_below g (Does (Call None f args)) q t e = cc
    kept_below g (Does (ICall None f args)) q t e = cc
    kept_below g (Does (Const to n)) q t e = cc
    kept_below g (Does (Move to from)) q t e = cc
    kept_below g (Does (Bin op to a b)) q t e = cc
    kept_below g (Does (Cmp op to a b)) q t e = cc
    kept_below g (Does (Addr to of)) q t e = cc
    kept_below g (Does (FAddr to f)) q t e = cc
    kept_below g (Does (Elem to base i n)) q t e = cc
    kept_below g (Does (Field to base n)) q t e = cc
    kept_below g (Does (Load to from u)) q t e = cc
    kept_below g (Does (Store to from u)) q t e = cc
    kept_below g (Ends x) q t e = cc

    agrees_by : (fr d : Frame) (r to : Option ℕ) → EndTyped p z (func_at p fr.func) (Ret r) → AnswerFits p z S d.func fr.func to → ((q : ℕ) → to ≡ Some q → q < length d.regs) → Agrees d r to
    agrees_by fr d r None t a h = tt
    agrees_by fr d None (Some q) t a h = absurd (no_result (func_at p fr.func).outcome (register_type p d.func q) t a.0)
      where
        no_result : (x : PlainResult) (u : PlainType) → x ≡ nothing → x ≡ gives u → ⊥
        no_result x u e f = cc
    agrees_by fr d (Some y) (Some q) t a h = h q refl

    agrees : (fr d : Frame) (rest : List Frame) (r : Option ℕ) → FramesFit p z S (fr ∷ d ∷ rest) → here p fr.func fr.block fr.place ≡ Ends (Ret r) → Agrees d r (result_register (here p d.func d.block d.place))
    agrees fr d rest r g e =
        agrees_by fr d r (result_register (here p d.func d.block d.place)) (subst (λ (h : Here). HereTyped p z (func_at p fr.func) h) e ((typed.funcs fr.func).code fr.block fr.place)) g.1.answer
        (λ q k. subst (λ (n : ℕ). q < n) (sym g.2.0.registers) (kept_below (func_at p d.func) (here p d.func d.block d.place) q ((typed.funcs d.func).code d.block d.place) k))

pub numbers_are_words : NumbersAreWords
numbers_are_words p sizes S fr r f h = number_register p sizes S fr r f h

pub pointers_are_of_objects : PointersAreOfObjects
pointers_are_of_objects p sizes S fr r t o k f h e = pointer_register p sizes S fr r t o k f h e

pub elements_are_small : ElementsAreSmall
elements_are_small p sizes S fr to base index size o k f t e = element_small p sizes S fr to base index size o k f t e

pub contents_are_whole : ContentsAreWhole
contents_are_whole = record { locals = locals_alike; globals = globals_alike }

pub returns_agree : ReturnsAgreeWithCalls
returns_agree p sizes typed = record { inside = waits_inside p sizes; agrees = λ S. agrees p sizes S typed }

pub accesses_are_in_sets : AccessesAreInSets
accesses_are_in_sets p sizes S = record { loads = loads_needed p sizes S; stores = stores_needed p sizes S; calls = icalls_needed p sizes S }
