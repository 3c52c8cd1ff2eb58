-- The different items of a list, item by item.
use Rattle.std.proofs.Common.{◌≡◌, ℕ, suc, ◌+◌, Bool, true, false, not, ◌||◌, List, [], ◌∷◌, ◌++◌, length, cond, filter, map, nat_eq, refl, sym, ap, ◌∙◌, arith}
use Rattle.std.specs.List.{list_any, position_or_len}
use Rattle.std.proofs.lemmas.Bool.{ne_eqb}
use Rattle.std.proofs.lemmas.Bool.Decides.{nat_tests}
use Rattle.std.proofs.lemmas.List.Elements.{filter-append}
use Rattle.std.proofs.lemmas.List.Recursion.{is_position_or_len}
use Rattle.std.proofs.lemmas.Map.Views.{any-filter_same}
use Rattle.plan_model.specs.Lists.{distinct}

module _ {X : Type 0} (same : X → X → Bool) where
  filter_last : (x y : X) (b : Bool) → filter (λ z. not (same x z)) (cond b [] (y ∷ [])) ≡ cond (same x y || b) [] (y ∷ [])
  filter_last x y b = by b (same x y) refl
    where
      by : (b c : Bool) → same x y ≡ c → filter (λ z. not (same x z)) (cond b [] (y ∷ [])) ≡ cond (c || b) [] (y ∷ [])
      by true true e = refl
      by true false e = refl
      by false c e = ap (λ d. cond (not d) (y ∷ []) []) e ∙ turned c
        where
          turned : (c : Bool) → cond (not c) (y ∷ []) [] ≡ cond (c || false) [] (y ∷ [])
          turned true = refl
          turned false = refl

  -- one more item stands last, if no other is the same
  pub distinct_more : (xs : List X) (y : X) → distinct same (xs ++ y ∷ []) ≡ distinct same xs ++ cond (list_any (λ x. same x y) xs) [] (y ∷ [])
  distinct_more [] y = refl
  distinct_more (x ∷ xs) y =
      ap (λ zs. x ∷ filter (λ z. not (same x z)) zs) (distinct_more xs y)
      ∙ (ap (λ zs. x ∷ zs) (filter-append (λ z. not (same x z)) (distinct same xs) (cond (list_any (λ x. same x y) xs) [] (y ∷ [])))
      ∙ ap (λ zs. x ∷ filter (λ z. not (same x z)) (distinct same xs) ++ zs) (filter_last x y (list_any (λ x. same x y) xs)))

  -- a test for the items that are the same as one finds one of the different items just where it finds one of all
  pub any_distinct : (xs : List X) (y : X) → ((x z : X) → same x z ≡ true → same z y ≡ true → same x y ≡ true) → list_any (λ x. same x y) (distinct same xs) ≡ list_any (λ x. same x y) xs
  any_distinct [] y t = refl
  any_distinct (x ∷ xs) y t = by (same x y) refl (any_distinct xs y t)
    where
      kept : same x y ≡ false → (z : X) → same z y ≡ true → not (same x z) ≡ true
      kept e z h = pick (same x z) refl
        where
          pick : (b : Bool) → same x z ≡ b → not b ≡ true
          pick true f = let g : same x y ≡ true = t x z f h in let c : true ≡ false = sym g ∙ e in cc
          pick false f = refl

      by : (b : Bool) → same x y ≡ b → list_any (λ x. same x y) (distinct same xs) ≡ list_any (λ x. same x y) xs
          → (b || list_any (λ x. same x y) (filter (λ z. not (same x z)) (distinct same xs))) ≡ (b || list_any (λ x. same x y) xs)
      by true e ih = refl
      by false e ih = any-filter_same (λ x. same x y) (λ z. not (same x z)) true (kept e) (distinct same xs) ∙ ih

-- ---- the first place that passes a test

-- a place is found where an item passes
pub found_any : {X : Type 0} (p : X → Bool) (xs : List X) → list_any p xs ≡ not (nat_eq (position_or_len p xs) (length xs))
found_any p [] = refl
found_any p (x ∷ xs) = by (p x) (found_any p xs)
  where
    later : (n l : ℕ) → nat_eq n l ≡ nat_eq (1 + n) (suc l)
    later n l = grind (arith, nat_tests)

    by : (b : Bool) → list_any p xs ≡ not (nat_eq (position_or_len p xs) (length xs)) → (b || list_any p xs) ≡ not (nat_eq (cond (not b) (1 + position_or_len p xs) 0) (suc (length xs)))
    by true ih = ap not (sym (ne_eqb 0 (suc (length xs)) (λ e. omega (arith, e))))
    by false ih = ih ∙ ap not (later (position_or_len p xs) (length xs))

-- of a list of things that are seen otherwise
pub position_seen : {X Y : Type 0} (f : X → Y) (p : Y → Bool) (xs : List X) → position_or_len (λ x. p (f x)) xs ≡ position_or_len p (map f xs)
position_seen f p xs = sym (is_position_or_len (λ ys. position_or_len p (map f ys)) (λ x. p (f x)) refl (λ y ys. by (p (f y)) (position_or_len p (map f ys))) xs)
  where
    by : (b : Bool) (n : ℕ) → cond (not b) (1 + n) 0 ≡ cond b 0 (1 + n)
    by true n = refl
    by false n = refl

pub any_seen : {X Y : Type 0} (f : X → Y) (p : Y → Bool) (xs : List X) → list_any (λ x. p (f x)) xs ≡ list_any p (map f xs)
any_seen f p [] = refl
any_seen f p (x ∷ xs) = ap (λ b. p (f x) || b) (any_seen f p xs)
