-- Functions of typed firmwares are functions that code is made for.
use Rattle.std.proofs.Common.{◌≡◌, ℕ, zero, suc, ◌<◌, ◌≤◌, List, [], ◌∷◌, length, get_or, map, Option, Some, None, sym, subst, arith}
use Rattle.std.specs.List.{All, Contains}
use Rattle.std.proofs.lemmas.List.{get_or-map, length-map}
use Rattle.std.proofs.lemmas.List.Elements.{All-from_get_or, Contains-get_or}
use Rattle.ir_model.specs.Types.{PlainType, PlainResult}
use Rattle.ir_model.specs.Plain.{PlainFunc, PlainFirmware, funcs_of}
use Rattle.ir_model.specs.Layout.{known}
use Rattle.ir_model.specs.Frames as frames
use Rattle.ir_model.specs.Resolved as ir
use Rattle.ir_model.specs.Resolved.{Program, NumberedInst, NumberedTerm, NumberedFunc, Named, TheGlobal, ThePeriph, TheLocal, func_at, no_block, no_func}
use Rattle.ir_model.specs.Resolve.{Scope, scope_of, resolved_func, resolve}
use Rattle.ir_model.specs.Typing.{IsTyped}
use Rattle.ir_model.specs.Signatures.{row_length}
use Rattle.ir_laws.specs.Typed.{KeepsResult, CallTyped, IsThere, InstTyped, EndTyped, HereTyped, FuncTyped, Typed, TypedOverNumbers, sizes_of}
use Rattle.ir_laws.specs.Limits.{IsFew, CountsAreLimited}
use Rattle.code_model.specs.declared.places.Places.{Places}
use Rattle.code_model.specs.FrameShape.{frame_size}
use Rattle.code_model.specs.Fitting.{IsRegister, IsKept, IsNamed, AreArguments, InstFits, TermFits, BlockFits, FuncFits}
use Rattle.code_model.specs.Laws.{FramesAgree}
use Rattle.code_lower_laws.specs.Reaching.{GoesInside, JumpsInside}
use Rattle.code_lower_laws.specs.Fitting.{HasEach, TypedFunctionsFit, TypedJumpsInside}
use Rattle.code_lower_laws.proofs.Here.{does_at, ends_at}

as_many : (n m : ℕ) → ((k : ℕ) → k < n → k < m) → n ≤ m
as_many zero m h = omega arith
as_many (suc n) m h = let l : n < m = h n (omega arith) in omega arith

-- ---- of a typed function

module _ (p : Program) (sizes : PlainType → ℕ) (g : NumberedFunc) (typed : FuncTyped p sizes g) where
  inst_typed : (b k : ℕ) → k < length (get_or g.blocks b no_block).insts → InstTyped p sizes g (get_or (get_or g.blocks b no_block).insts k (ir.Const 0 0))
  inst_typed b k l = subst (HereTyped p sizes g) (does_at (get_or g.blocks b no_block).insts (get_or g.blocks b no_block).term k (ir.Const 0 0) l) (typed.code b k)

  end_typed : (b : ℕ) → EndTyped p sizes g (get_or g.blocks b no_block).term
  end_typed b = subst (HereTyped p sizes g) (ends_at (get_or g.blocks b no_block).insts (get_or g.blocks b no_block).term) (typed.code b (length (get_or g.blocks b no_block).insts))

  end_inside : (t : NumberedTerm) → 0 < length g.blocks → EndTyped p sizes g t → GoesInside g t
  end_inside (ir.Jump b) l h = h l
  end_inside (ir.Branch on a b) l h = (h.1, h.2)
  end_inside (ir.Ret r) l h = tt

  pub jumps_inside : JumpsInside g
  jumps_inside b l = end_inside (get_or g.blocks b no_block).term (omega arith) (end_typed b)

  module _ (q : Places) (globals : length q.globals ≡ length p.globals) (windows : length q.windows ≡ length p.periphs) (entries : length q.entries ≡ length p.funcs) where
    kept : (to : Option ℕ) (r : PlainResult) → KeepsResult g to r → IsKept q g to
    kept None r h = tt
    kept (Some k) r h = h.2.there

    named : (of : Named) → IsThere p g of → IsNamed q g of
    named (TheGlobal x) h = omega arith
    named (ThePeriph x) h = omega arith
    named (TheLocal x) h = h

    arguments : (to : Option ℕ) (as_ : List ℕ) (a : _) (r : PlainResult) → CallTyped g to as_ a r → AreArguments q g as_
    arguments to as_ a r c = (c.few, All-from_get_or (IsRegister q g) as_ 0 (λ k l. (c.arguments k l).there))

    inst_fits : (i : NumberedInst) → InstTyped p sizes g i → InstFits q g i
    inst_fits (ir.Const to v) h = h.0.there
    inst_fits (ir.Move to from) h = (h.1.there, h.2.there)
    inst_fits (ir.Bin op to a b) h = (h.0.there, h.1.there, h.2.there)
    inst_fits (ir.Cmp op to a b) h = (h.0.there, h.1.there, h.2.there)
    inst_fits (ir.Addr to of) h = (h.held.there, named of h.there)
    inst_fits (ir.FAddr to f) h = let l = h.1 in (h.0.there, omega arith)
    inst_fits (ir.Elem to base index size) h = (h.part.held.there, h.part.from.there, h.by.there)
    inst_fits (ir.Field to base offset) h = (h.part.held.there, h.part.from.there)
    inst_fits (ir.Load to from t) h = (h.held.there, h.from.there)
    inst_fits (ir.Store to from t) h = (h.from.there, h.held.there)
    inst_fits (ir.Call to f as_) h = let l = h.0 in (kept to _ h.1.outcome, omega arith, arguments to as_ _ _ h.1)
    inst_fits (ir.ICall to r as_) h = (kept to _ h.call.outcome, h.held.there, arguments to as_ _ _ h.call)

    term_fits : (t : NumberedTerm) → 0 < length g.blocks → EndTyped p sizes g t → TermFits q g t
    term_fits (ir.Jump b) l h = h l
    term_fits (ir.Branch on a b) l h = (h.0.there, h.1, h.2)
    term_fits (ir.Ret None) l h = tt
    term_fits (ir.Ret (Some r)) l h = h.2.there

    block_fits : (b : ℕ) → b < length g.blocks → BlockFits q g (get_or g.blocks b no_block)
    block_fits b l =
        record {
          insts = All-from_get_or (InstFits q g) (get_or g.blocks b no_block).insts (ir.Const 0 0) (λ k i. inst_fits (get_or (get_or g.blocks b no_block).insts k (ir.Const 0 0)) (inst_typed b k i));
          term = term_fits (get_or g.blocks b no_block).term (omega arith) (end_typed b);
        }

    pub blocks_fit : All (BlockFits q g) g.blocks
    blocks_fit = All-from_get_or (BlockFits q g) g.blocks no_block block_fits

  pub params_first : row_length g.params ≤ length g.regs
  params_first = as_many (row_length g.params) (length g.regs) (λ k l. (typed.params k l).there)

-- ---- the frame

abbrev FramesAreSmall : Type 0
FramesAreSmall = (w : PlainFirmware) (f : PlainFunc) → IsTyped w → Contains (funcs_of w) f → frames.frame_size (known w.structs) f ≤ 992

small_frame : (s : Scope) (fs : List PlainFunc) (f : ℕ) → f < length (map (resolved_func s) fs) →
    ((x : PlainFunc) → Contains fs x → frame_size (resolved_func s x) ≤ 992) → frame_size (get_or (map (resolved_func s) fs) f no_func) ≤ 992
small_frame s [] f l h = absurd (omega arith)
small_frame s (x ∷ xs) f l h =
    let n = length-map (x ∷ xs) (resolved_func s) in
    let i : f < length (x ∷ xs) = omega arith in
    subst (λ (g : NumberedFunc). frame_size g ≤ 992) (sym (get_or-map (resolved_func s) (x ∷ xs) f x no_func i)) (h (get_or (x ∷ xs) f x) (Contains-get_or (x ∷ xs) f x i))

frame_fits : FramesAgree → FramesAreSmall → (w : PlainFirmware) → IsTyped w → (f : ℕ) → f < length (resolve w).funcs → frame_size (func_at (resolve w) f) ≤ 992
unfolding resolve
frame_fits agree small w t f l =
    small_frame (scope_of w) (funcs_of w) f l (λ x c. subst (λ (n : ℕ). n ≤ 992) (sym (agree.size (scope_of w) x)) (small w x t c))

function_fits : (w : PlainFirmware) → Typed (resolve w) (sizes_of w) → ((f : ℕ) → IsFew (func_at (resolve w) f)) → (f : ℕ) → f < length (resolve w).funcs →
    frame_size (func_at (resolve w) f) ≤ 992 → (q : Places) → HasEach (resolve w) f q → FuncFits q (func_at (resolve w) f)
function_fits w typed few f l frame q h =
    record {
      registers = (few f).registers;
      params = (few f).params;
      params_first = params_first (resolve w) (sizes_of w) (func_at (resolve w) f) (typed.funcs f);
      frame = frame;
      some_block = typed.blocks f l;
      blocks = blocks_fit (resolve w) (sizes_of w) (func_at (resolve w) f) (typed.funcs f) q h.globals h.windows h.entries;
      sites = h.sites;
      lends = h.lends;
      lend_numbers = h.lend_numbers;
    }

pub typed_functions_fit : TypedOverNumbers → CountsAreLimited → FramesAgree → FramesAreSmall → TypedFunctionsFit
typed_functions_fit places counts agree small w t n f l q h = function_fits w (places w t n) (counts w n).program.each f l (frame_fits agree small w t f l) q h

pub typed_jumps_inside : TypedOverNumbers → TypedJumpsInside
typed_jumps_inside places w t n f = jumps_inside (resolve w) (sizes_of w) (func_at (resolve w) f) ((places w t n).funcs f)
