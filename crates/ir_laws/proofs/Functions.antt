-- Each function of a firmware that passes the checks is typed, and has blocks.
use Rattle.std.proofs.Common.{◌≡◌, ℕ, zero, suc, ◌<◌, List, [], ◌∷◌, ◌++◌, length, nat_le, refl, get_or, map, arith}
use Rattle.std.specs.Prelude.{IsTrue}
use Rattle.std.proofs.lemmas.List.{length-map}
use Rattle.std.proofs.lemmas.Bool.{leb-true}
use Rattle.ir_model.specs.declared.check.CheckKind.TheVariants.{IllTyped, ObjectTooLarge}
use Rattle.ir_model.specs.declared.check.CheckPlace.{CheckPlace}
use Rattle.ir_model.specs.declared.check.CheckPlace.TheVariants as place
use Rattle.ir_model.specs.Types.{U32, is_register_type}
use Rattle.ir_model.specs.Plain.{PlainBinding, PlainFunc, PlainFirmware, names_of, types_of, regs_of}
use Rattle.ir_model.specs.Layout.{known, shape}
use Rattle.ir_model.specs.Resolved.{no_func}
use Rattle.ir_model.specs.Resolve.{Scope, scope_of, row_from, resolved_func, resolved_block, resolve}
use Rattle.base_laws.specs.Lists.{Each}
use Rattle.ir_model.specs.Typing.{Checks, check, is_new, type_checks, object_limit, register_checks, local_checks, func_checks, funcs_checks}
use Rattle.ir_model.specs.Signatures.{in_row, row_length}
use Rattle.ir_model.proofs.Passing.{Pass, left, right, holds}
use Rattle.ir_model.proofs.Limits.{Limited}
use Rattle.ir_model.proofs.Typed.{structs_named, by_parts}
use Rattle.ir_laws.specs.Typed.{FuncTyped}
use Rattle.ir_laws.proofs.Names.{EachBinding}
use Rattle.ir_laws.proofs.Places.{sizes, IsSmall, AreSmall, blocks_typed}
use Rattle.base_laws.proofs.Lists.{each_both}

pub register_types : (ds : List (List ℕ)) (p : CheckPlace) (seen : List (List ℕ)) (ss : List PlainBinding) → Pass (register_checks ds p seen ss) → Each (λ (s : PlainBinding). IsTrue (is_register_type s.ty)) ss
register_types ds p seen [] h = tt
register_types ds p seen (s ∷ ss) h =
    let front : Checks = is_new seen s.name p ∷ type_checks ds ds p s.ty in
    let c : Checks = check (is_register_type s.ty) IllTyped p ∷ [] in
    let rest : Checks = register_checks ds p (seen ++ s.name ∷ []) ss in (
      holds (is_register_type s.ty) IllTyped p [] (right front c (left (front ++ c) rest h)),
      register_types ds p (seen ++ s.name ∷ []) ss (right (front ++ c) rest h),
    )

pub small_locals : (w : PlainFirmware) (ds : List (List ℕ)) (p : CheckPlace) (seen : List (List ℕ)) (ss : List PlainBinding) → Pass (local_checks w ds p seen ss) → EachBinding (IsSmall w) ss
small_locals w ds p seen [] h = tt
small_locals w ds p seen (s ∷ ss) h =
    let front : Checks = is_new seen s.name p ∷ type_checks ds ds p s.ty in
    let c : Checks = check (nat_le (shape (known w.structs) s.ty).size object_limit) ObjectTooLarge p ∷ [] in
    let rest : Checks = local_checks w ds p (seen ++ s.name ∷ []) ss in (
      leb-true (shape (known w.structs) s.ty).size object_limit (holds (nat_le (shape (known w.structs) s.ty).size object_limit) ObjectTooLarge p [] (right front c (left (front ++ c) rest h))),
      small_locals w ds p (seen ++ s.name ∷ []) ss (right (front ++ c) rest h),
    )

-- ---- a function

register_at : (ss : List PlainBinding) (r : ℕ) → Each (λ (s : PlainBinding). IsTrue (is_register_type s.ty)) ss → IsTrue (is_register_type (get_or (types_of ss) r U32))
register_at [] r h = refl
register_at (s ∷ ss) zero h = h.0
register_at (s ∷ ss) (suc r) h = register_at ss r h.1

param_at : (ps rs : List PlainBinding) (k : ℕ) → k < row_length (row_from ps) → (k < length (types_of (ps ++ rs))) × (get_or (types_of (ps ++ rs)) k U32 ≡ in_row (row_from ps) k)
param_at [] rs k h = absurd (omega arith)
param_at (s ∷ ps) rs zero h = (omega arith, refl)
param_at (s ∷ ps) rs (suc k) h = let r = param_at ps rs k (omega arith) in let a = r.0 in (omega arith, r.1)

module _ (w : PlainFirmware) where
  abbrev scope : Scope
  scope = scope_of w

  func_typed : AreSmall w → (f : PlainFunc) → Limited f → Pass (func_checks w f) → FuncTyped (resolve w) (sizes w) (resolved_func scope f)
  func_typed small f l h =
      let q = by_parts w f h in
      let p : CheckPlace = place.Func f.name in
      let ds : List (List ℕ) = structs_named w in
      let types = each_both (λ (s : PlainBinding). IsTrue (is_register_type s.ty)) f.params f.regs
      (register_types ds p [] f.params q.params)
      (register_types ds p (names_of f.params ++ names_of f.locals) f.regs q.regs) in
      record {
        params = λ k q. (let x = param_at f.params f.regs k q in record { there = x.0; ty = x.1 });
        registers = λ r. register_at (regs_of f) r types;
        code = λ b k. blocks_typed w f (small_locals w ds p (names_of f.params) f.locals q.locals) small l.registers f.blocks l.words l.arguments q.blocks b k;
      }

  no_func_typed : FuncTyped (resolve w) (sizes w) no_func
  no_func_typed = record { params = λ k q. absurd (omega arith); registers = λ r. refl; code = λ b k z. z }

  pub funcs_typed : AreSmall w → (fs : List PlainFunc) → Each Limited fs → Pass (funcs_checks w fs) → (k : ℕ) → FuncTyped (resolve w) (sizes w) (get_or (map (resolved_func scope) fs) k no_func)
  funcs_typed small [] l h k = no_func_typed
  funcs_typed small (f ∷ fs) l h zero = func_typed small f l.0 (left (func_checks w f) (funcs_checks w fs) h)
  funcs_typed small (f ∷ fs) l h (suc k) = funcs_typed small fs l.1 (right (func_checks w f) (funcs_checks w fs) h) k

  pub some_blocks : (fs : List PlainFunc) → Each (λ (f : PlainFunc). 0 < length f.blocks) fs → (k : ℕ) → k < length (map (resolved_func scope) fs)
      → 0 < length (get_or (map (resolved_func scope) fs) k no_func).blocks
  some_blocks [] l k q = absurd (omega arith)
  some_blocks (f ∷ fs) l zero q = let a = l.0 in let n = length-map f.blocks (resolved_block scope f) in omega arith
  some_blocks (f ∷ fs) l (suc k) q = some_blocks fs l.1 k (omega arith)
