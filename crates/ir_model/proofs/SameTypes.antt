-- Two types are the same exactly where they are equal; and a row of types as the code holds it is that of its types.
use Rattle.std.proofs.Common.{◌≡◌, ◌↔◌, IsTrue, nat_eq, true, map, refl, sym, ap, ◌∙◌, rules}
use Rattle.std.specs.Cmp.Derive.{both_true}
use Rattle.std.proofs.lemmas.Bool.{and_parts, eqb-true, eq-eqb}
use Rattle.std.proofs.lemmas.Slice.Eq.{bytes_eq-Decides}
use Rattle.ir_model.specs.declared.types.Ty as code
use Rattle.ir_model.specs.declared.types.Signature.{Signature}
use Rattle.ir_model.specs.Types.{PlainType, U8, U16, U32, Pointer, Array, Named, Callee, PlainTypes, none, more, PlainResult, nothing, gives, type_of, row_of, types_from, boxed_result_of, same, same_row, same_result}

pub rows : (n : _) (k : code.Row_of-Ty n) → row_of k ≡ types_from (map type_of (code.items-the_row-Ty n k))
rows n code.end_of-Ty = refl
rows n (code.more_of-Ty t r) = ap (more (type_of t)) (rows _ r)

-- the type of a function, as the code holds it
pub callee_is : (s : Signature) → type_of (code.Callee s) ≡ Callee (types_from (map type_of s.params)) (boxed_result_of s.«result»)
callee_is s = search (rules, code.the_lemmas, rows)

mutual
  pub same_sound : (t u : PlainType) → same t u ≡ true → t ≡ u
  same_sound U8 U8 e = refl
  same_sound U16 U16 e = refl
  same_sound U32 U32 e = refl
  same_sound (Pointer t) (Pointer u) e = ap Pointer (same_sound t u e)
  same_sound (Array n t) (Array m u) e =
      let h = eqb-true n m (and_parts (nat_eq n m) _ e).0 in let r = same_sound t u (and_parts (nat_eq n m) _ e).1 in cc
  same_sound (Named a) (Named b) e = ap Named ((bytes_eq-Decides a b).0 e)
  same_sound (Callee a r) (Callee b s) e =
      let h = row_sound a b (and_parts (same_row a b) _ e).0 in let q = result_sound r s (and_parts (same_row a b) _ e).1 in cc
  same_sound _ _ e = cc

  row_sound : (a b : PlainTypes) → same_row a b ≡ true → a ≡ b
  row_sound none none e = refl
  row_sound (more t a) (more u b) e = let h = same_sound t u (and_parts (same t u) _ e).0 in let r = row_sound a b (and_parts (same t u) _ e).1 in cc
  row_sound _ _ e = cc

  pub result_sound : (r s : PlainResult) → same_result r s ≡ true → r ≡ s
  result_sound nothing nothing e = refl
  result_sound (gives t) (gives u) e = ap gives (same_sound t u e)
  result_sound _ _ e = cc

mutual
  same_refl : (t : PlainType) → same t t ≡ true
  same_refl U8 = refl
  same_refl U16 = refl
  same_refl U32 = refl
  same_refl (Pointer t) = same_refl t
  same_refl (Array n t) = both_true (eq-eqb n n refl) (same_refl t)
  same_refl (Named a) = (bytes_eq-Decides a a).1 refl
  same_refl (Callee a r) = both_true (row_refl a) (result_refl r)

  row_refl : (a : PlainTypes) → same_row a a ≡ true
  row_refl none = refl
  row_refl (more t a) = both_true (same_refl t) (row_refl a)

  result_refl : (r : PlainResult) → same_result r r ≡ true
  result_refl nothing = refl
  result_refl (gives t) = same_refl t

-- equal types are the same, and only they
pub same_exactly : (t u : PlainType) → IsTrue (same t u) ↔ (t ≡ u)
same_exactly t u = (same_sound t u, λ e. ap (λ v. same t v) (sym e) ∙ same_refl t)
