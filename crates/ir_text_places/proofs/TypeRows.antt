-- The types between brackets, as the code holds them.
use Rattle.std.proofs.Common.{◌≡◌, ◌<◌, ℕ, suc, ◌+◌, List, [], ◌∷◌, ◌++◌, length, take, get_or, map, ap, ◌∙◌, arith}
use Rattle.ir_model.specs.declared.types.Ty as code
use Rattle.ir_model.specs.declared.types.Ty.{Ty}
use Rattle.ir_model.specs.declared.types.Signature.{Signature}
use Rattle.ir_model.specs.Types.{type_of, types_from, boxed_result_of}
use Rattle.ir_model.proofs.SameTypes.{callee_is}
use Rattle.base_laws.proofs.Lists.{take_next}
use Rattle.ir_text_places.specs.Sizes.{type_size, row_size, result_size, closed}

pub callee_size : (s : Signature) → type_size (type_of (code.Callee s)) ≡ 2 + (closed (row_size (types_from (map type_of s.params))) + result_size (boxed_result_of s.«result»))
callee_size s = ap type_size (callee_is s)

row_more : (ts : List Ty) (t : Ty) → row_size (types_from (map type_of (ts ++ t ∷ []))) ≡ row_size (types_from (map type_of ts)) + suc (type_size (type_of t))
row_more [] t = omega arith
row_more (u ∷ ts) t = let h = row_more ts t in omega arith

-- one type more of a row that is counted as far as its number
pub row_next : (ts : List Ty) (i : ℕ) (t : Ty) (before one more after : ℕ) → i < length ts → t ≡ get_or ts i t → before ≡ row_size (types_from (map type_of (take i ts)))
    → one ≡ type_size (type_of t) → more ≡ 1 + one → after ≡ before + more → after ≡ row_size (types_from (map type_of (take (i + 1) ts)))
row_next ts i t before one more after l e b o m a =
    let h : row_size (types_from (map type_of (take (i + 1) ts))) ≡ row_size (types_from (map type_of (take i ts))) + suc (type_size (type_of t)) =
    ap (λ us. row_size (types_from (map type_of us))) (take_next ts i t l e) ∙ row_more (take i ts) t in
    omega arith
