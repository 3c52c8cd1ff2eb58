-- A joined cover holds both, and there are fewer covers then.
use Rattle.std.proofs.Common.{◌≡◌, ℕ, zero, suc, ◌<◌, ◌≤◌, ◌+◌, Bool, true, false, not, List, [], ◌∷◌, cond, nat_lt, filter, length, get_or, refl, sym, ap, subst, ◌∙◌, arith}
use Rattle.plan_model.specs.declared.graph.Cover.{Cover}
use Rattle.plan_model.specs.Choices.{Pair}
use Rattle.plan_model.specs.Covers.{is_inside, cover_at, with_cover}
use Rattle.plan_model.specs.Lists.{in_order, placed}

-- ---- how many

length_placed : (lt : Cover → Cover → Bool) (x : Cover) (ys : List Cover) → length (placed lt x ys) ≡ suc (length ys)
length_placed lt x [] = refl
length_placed lt x (y ∷ ys) = by (lt y x) (length_placed lt x ys)
  where
    by : (b : Bool) → length (placed lt x ys) ≡ suc (length ys) → length (cond b (y ∷ placed lt x ys) (x ∷ y ∷ ys)) ≡ suc (suc (length ys))
    by true ih = ap suc ih
    by false ih = refl

length_in_order : (lt : Cover → Cover → Bool) (xs : List Cover) → length (in_order lt xs) ≡ length xs
length_in_order lt [] = refl
length_in_order lt (x ∷ xs) = length_placed lt x (in_order lt xs) ∙ ap suc (length_in_order lt xs)

module _ (p : Cover → Bool) where
  at_most : (xs : List Cover) → length (filter p xs) ≤ length xs
  at_most [] = omega arith
  at_most (x ∷ xs) = by (p x) (at_most xs)
    where
      by : (b : Bool) → length (filter p xs) ≤ length xs → length (cond b (x ∷ filter p xs) (filter p xs)) ≤ suc (length xs)
      by true ih = omega arith
      by false ih = omega arith

  one_less : (xs : List Cover) (i : ℕ) (d : Cover) → i < length xs → p (get_or xs i d) ≡ false → length (filter p xs) + 1 ≤ length xs
  one_less [] i d l h = absurd (omega arith)
  one_less (x ∷ xs) zero d l h = let few = at_most xs in subst (λ b. length (cond b (x ∷ filter p xs) (filter p xs)) + 1 ≤ suc (length xs)) (sym h) (omega arith)
  one_less (x ∷ xs) (suc i) d l h = by (p x) (one_less xs i d (omega arith) h)
    where
      by : (b : Bool) → length (filter p xs) + 1 ≤ length xs → length (cond b (x ∷ filter p xs) (filter p xs)) + 1 ≤ suc (length xs)
      by true ih = omega arith
      by false ih = omega arith

  two_less : (xs : List Cover) (i j : ℕ) (d : Cover) → i < j → j < length xs → p (get_or xs i d) ≡ false → p (get_or xs j d) ≡ false → length (filter p xs) + 2 ≤ length xs
  two_less [] i j d l m h k = absurd (omega arith)
  two_less (x ∷ xs) i zero d l m h k = absurd (omega arith)
  two_less (x ∷ xs) zero (suc j) d l m h k = let few = one_less xs j d (omega arith) k in subst (λ b. length (cond b (x ∷ filter p xs) (filter p xs)) + 2 ≤ suc (length xs)) (sym h) (omega arith)
  two_less (x ∷ xs) (suc i) (suc j) d l m h k = by (p x) (two_less xs i j d (omega arith) (omega arith) h k)
    where
      by : (b : Bool) → length (filter p xs) + 2 ≤ length xs → length (cond b (x ∷ filter p xs) (filter p xs)) + 2 ≤ suc (length xs)
      by true ih = omega arith
      by false ih = omega arith

-- two covers inside another give way to it
pub fewer_covers : (cs : List Cover) (q : Pair) (d : Cover) → q.first < q.second → q.second < length cs
    → is_inside (cover_at cs q.first) d ≡ true → is_inside (cover_at cs q.second) d ≡ true → length (with_cover cs d) < length cs
fewer_covers cs q d l m h k =
    let size = length_in_order (λ (a b : Cover). nat_lt a.base b.base) (d ∷ filter (λ (c : Cover). not (is_inside c d)) cs) in
    let few = two_less (λ (c : Cover). not (is_inside c d)) cs q.first q.second (record { base = 0; size = 0 }) l m (ap not h) (ap not k) in
    omega arith
