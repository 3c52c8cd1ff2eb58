-- Beyond the program's claim: only laws, proofs and functions inside the tool cite this file.
-- A code for types: a tree of numbers that gives the type back, by which a proof tells two runs apart.
use Rattle.std.specs.Prelude.{◌≡◌, ℕ, zero, suc, List, [], ◌∷◌, refl}
use Rattle.std.proofs.Common.{sym, ap, ◌∙◌}
use Rattle.std.specs.Coded.{Coded}
use base.Stored.{Gv, gnil, gnum, gcons, num}
use Rattle.ir_model.specs.Types.{PlainType, U8, U16, U32, Pointer, Array, Named, Callee, PlainTypes, none, more, PlainResult, nothing, gives}

abbrev name_code : List ℕ → Gv
name_code [] = gnil
name_code (n ∷ ns) = gcons (gnum n) (name_code ns)

abbrev mutual
  type_code : PlainType → Gv
  type_code U8 = gnum 0
  type_code U16 = gnum 1
  type_code U32 = gnum 2
  type_code (Pointer t) = gcons (gnum 0) (type_code t)
  type_code (Array n t) = gcons (gnum 1) (gcons (gnum n) (type_code t))
  type_code (Named ns) = gcons (gnum 2) (name_code ns)
  type_code (Callee ts r) = gcons (gnum 3) (gcons (row_code ts) (result_code r))

  row_code : PlainTypes → Gv
  row_code none = gnil
  row_code (more t ts) = gcons (type_code t) (row_code ts)

  result_code : PlainResult → Gv
  result_code nothing = gnil
  result_code (gives t) = gcons gnil (type_code t)

-- back again
abbrev name_in : Gv → List ℕ
name_in gnil = []
name_in (gnum n) = []
name_in (gcons a b) = num a ∷ name_in b

abbrev first_number : Gv → ℕ
first_number gnil = 0
first_number (gnum n) = 0
first_number (gcons a b) = num a

abbrev number_type : ℕ → PlainType
number_type zero = U8
number_type (suc zero) = U16
number_type (suc (suc n)) = U32

abbrev given_type : PlainResult → PlainType
given_type nothing = U8
given_type (gives t) = t

-- what a tree is the code of, as a type, a row and a result, and what its two parts are
record Decoded : Type 0 where
  ty : PlainType
  row : PlainTypes
  outcome : PlainResult
  first_row : PlainTypes
  rest_outcome : PlainResult

abbrev tagged_type : (tag : ℕ) → Gv → Decoded → PlainType
tagged_type zero g d = Pointer d.ty
tagged_type (suc zero) g d = Array (first_number g) (given_type d.outcome)
tagged_type (suc (suc zero)) g d = Named (name_in g)
tagged_type (suc (suc (suc n))) g d = Callee d.first_row d.rest_outcome

abbrev decoded : Gv → Decoded
decoded gnil = record { ty = U8; row = none; outcome = nothing; first_row = none; rest_outcome = nothing }
decoded (gnum n) = record { ty = number_type n; row = none; outcome = nothing; first_row = none; rest_outcome = nothing }
decoded (gcons a b) =
    record {
      ty = tagged_type (num a) b (decoded b);
      row = more (decoded a).ty (decoded b).row;
      outcome = gives (decoded b).ty;
      first_row = (decoded a).row;
      rest_outcome = (decoded b).outcome;
    }

pub name_in-name_code : (ns : List ℕ) → name_in (name_code ns) ≡ ns
name_in-name_code [] = refl
name_in-name_code (n ∷ ns) = ap (λ ms. n ∷ ms) (name_in-name_code ns)

mutual
  pub decoded-type_code : (t : PlainType) → (decoded (type_code t)).ty ≡ t
  decoded-type_code U8 = refl
  decoded-type_code U16 = refl
  decoded-type_code U32 = refl
  decoded-type_code (Pointer t) = ap (λ u. Pointer u) (decoded-type_code t)
  decoded-type_code (Array n t) = ap (λ u. Array n u) (decoded-type_code t)
  decoded-type_code (Named ns) = ap (λ ms. Named ms) (name_in-name_code ns)
  decoded-type_code (Callee ts r) = λ i. Callee (decoded-row_code ts i) (decoded-result_code r i)

  pub decoded-row_code : (ts : PlainTypes) → (decoded (row_code ts)).row ≡ ts
  decoded-row_code none = refl
  decoded-row_code (more t ts) = λ i. more (decoded-type_code t i) (decoded-row_code ts i)

  pub decoded-result_code : (r : PlainResult) → (decoded (result_code r)).outcome ≡ r
  decoded-result_code nothing = refl
  decoded-result_code (gives t) = ap (λ u. gives u) (decoded-type_code t)

abbrev pub coded_type : Coded PlainType
coded_type = record { code = type_code; inj = λ x y p. sym (decoded-type_code x) ∙ ap (λ g. (decoded g).ty) p ∙ decoded-type_code y }

abbrev pub coded_row : Coded PlainTypes
coded_row = record { code = row_code; inj = λ x y p. sym (decoded-row_code x) ∙ ap (λ g. (decoded g).row) p ∙ decoded-row_code y }

abbrev pub coded_outcome : Coded PlainResult
coded_outcome = record { code = result_code; inj = λ x y p. sym (decoded-result_code x) ∙ ap (λ g. (decoded g).outcome) p ∙ decoded-result_code y }
