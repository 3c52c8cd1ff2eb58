-- The functions of a compartment among the first ones, with one function more.
use Rattle.std.proofs.Common.{◌≡◌, ℕ, zero, suc, ◌+◌, ◌<◌, Bool, true, false, List, [], ◌∷◌, ◌++◌, cond, length, take, get_or, nat_eq, refl, ap, ◌∙◌, add-one, arith}
use Rattle.std.proofs.lemmas.List.{append-nil}
use Rattle.code_model.specs.CompartmentCode.{members_from}

-- a number that a test sets in front of two lists, one behind the other, stands in front of the first of them
pub in_front : (b : Bool) (n : ℕ) (xs ys : List ℕ) → cond b (n ∷ (xs ++ ys)) (xs ++ ys) ≡ cond b (n ∷ xs) xs ++ ys
in_front true n xs ys = refl
in_front false n xs ys = refl

next_member : (n k : ℕ) (ds : List ℕ) (c : ℕ) → k < length ds → members_from n (take (suc k) ds) c ≡ members_from n (take k ds) c ++ cond (nat_eq (get_or ds k 0) c) ((n + k) ∷ []) []
next_member n k [] c l = absurd (omega arith)
next_member n zero (d ∷ ds) c l = ap (λ m. cond (nat_eq d c) (m ∷ []) []) (omega arith)
next_member n (suc k) (d ∷ ds) c l =
    let rest = members_from (suc n) (take k ds) c in
    let e : suc n + k ≡ n + suc k = omega arith in
    ap (λ ms. cond (nat_eq d c) (n ∷ ms) ms) (next_member (suc n) k ds c (omega arith) ∙ ap (λ m. rest ++ cond (nat_eq (get_or ds k 0) c) (m ∷ []) []) e)
    ∙ in_front (nat_eq d c) n rest (cond (nat_eq (get_or ds k 0) c) ((n + suc k) ∷ []) [])

members_more : (k : ℕ) (ds : List ℕ) (c : ℕ) → k < length ds → members_from 0 (take (k + 1) ds) c ≡ members_from 0 (take k ds) c ++ cond (nat_eq (get_or ds k 0) c) (k ∷ []) []
members_more k ds c l =
    let e : 0 + k ≡ k = omega arith in
    ap (λ n. members_from 0 (take n ds) c) (add-one k) ∙ next_member 0 k ds c l ∙ ap (λ m. members_from 0 (take k ds) c ++ cond (nat_eq (get_or ds k 0) c) (m ∷ []) []) e

-- one that stands in the compartment comes last
pub member_kept : (k : ℕ) (ds : List ℕ) (c : ℕ) → k < length ds → nat_eq (get_or ds k 0) c ≡ true → members_from 0 (take (k + 1) ds) c ≡ members_from 0 (take k ds) c ++ k ∷ []
member_kept k ds c l t = members_more k ds c l ∙ ap (λ b. members_from 0 (take k ds) c ++ cond b (k ∷ []) []) t

-- and another is left out
pub member_dropped : (k : ℕ) (ds : List ℕ) (c : ℕ) → k < length ds → nat_eq (get_or ds k 0) c ≡ false → members_from 0 (take (k + 1) ds) c ≡ members_from 0 (take k ds) c
member_dropped k ds c l t =
    members_more k ds c l ∙ ap (λ b. members_from 0 (take k ds) c ++ cond b (k ∷ []) []) t ∙ append-nil (members_from 0 (take k ds) c)
