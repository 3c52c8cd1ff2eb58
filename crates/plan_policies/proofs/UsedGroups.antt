-- How many of the groups that have a function are below a number.
use Rattle.std.proofs.Common.{◌≡◌, ℕ, ◌+◌, ◌<◌, Bool, true, false, not, ◌||◌, List, [], ◌∷◌, length, cond, filter, count_by, nat_eq, nat_lt, refl, sym, ap, ◌∙◌, arith}
use Rattle.std.specs.List.{All}
use Rattle.std.proofs.lemmas.Bool.{eqb-true, eqb-false, ne_eqb, lt-ltb, le-ltb}
use Rattle.std.proofs.lemmas.Bool.Decides.{nat_tests}
use Rattle.std.proofs.lemmas.List.Recursion.{is_count_by}
use Rattle.std.proofs.lemmas.List.Elements.{All-head, All-tail, All-cons, All-nil, All-filter}
use Rattle.plan_model.specs.Compartments.{compartment_number, used_groups}
use Rattle.plan_model.specs.Lists.{distinct, has}

-- ---- counts by recursion

abbrev tally : (ℕ → Bool) → List ℕ → ℕ
tally p [] = 0
tally p (x ∷ xs) = cond (p x) 1 0 + tally p xs

counted : (p : ℕ → Bool) (xs : List ℕ) → count_by p xs ≡ tally p xs
counted p xs = sym (is_count_by (tally p) p refl (λ y ys. by (p y) (tally p ys)) xs)
  where
    by : (b : Bool) (n : ℕ) → cond b 1 0 + n ≡ cond b (1 + n) n
    by true n = refl
    by false n = omega arith

-- ---- one more

one_more : (x g : ℕ) → cond (nat_lt x (g + 1)) 1 0 ≡ cond (nat_lt x g) 1 0 + cond (nat_eq x g) 1 0
one_more x g = grind (arith, nat_tests)

below_more : (xs : List ℕ) (g : ℕ) → tally (λ h. nat_lt h (g + 1)) xs ≡ tally (λ h. nat_lt h g) xs + tally (λ h. nat_eq h g) xs
below_more [] g = omega arith
below_more (x ∷ xs) g =
    let one = one_more x g in
    let rest = below_more xs g in
    omega arith

-- ---- each used group is there once

removed : (xs : List ℕ) (x g : ℕ) → x ≡ g → tally (λ h. nat_eq h g) (filter (λ y. not (nat_eq x y)) xs) ≡ 0
removed [] x g e = refl
removed (y ∷ ys) x g e = by (nat_eq x y) refl (removed ys x g e)
  where
    by : (b : Bool) → nat_eq x y ≡ b → tally (λ h. nat_eq h g) (filter (λ y. not (nat_eq x y)) ys) ≡ 0
        → tally (λ h. nat_eq h g) (cond (not b) (y ∷ filter (λ y. not (nat_eq x y)) ys) (filter (λ y. not (nat_eq x y)) ys)) ≡ 0
    by true f ih = ih
    by false f ih = let apart : nat_eq y g ≡ false = ne_eqb y g (λ s. eqb-false x y f (e ∙ sym s)) in ap (λ b. cond b 1 0 + tally (λ h. nat_eq h g) (filter (λ y. not (nat_eq x y)) ys)) apart ∙ (omega arith ∙ ih)

untouched : (xs : List ℕ) (x g : ℕ) → (x ≡ g → ⊥) → tally (λ h. nat_eq h g) (filter (λ y. not (nat_eq x y)) xs) ≡ tally (λ h. nat_eq h g) xs
untouched [] x g e = refl
untouched (y ∷ ys) x g e = by (nat_eq x y) refl (untouched ys x g e)
  where
    by : (b : Bool) → nat_eq x y ≡ b → tally (λ h. nat_eq h g) (filter (λ y. not (nat_eq x y)) ys) ≡ tally (λ h. nat_eq h g) ys
        → tally (λ h. nat_eq h g) (cond (not b) (y ∷ filter (λ y. not (nat_eq x y)) ys) (filter (λ y. not (nat_eq x y)) ys)) ≡ cond (nat_eq y g) 1 0 + tally (λ h. nat_eq h g) ys
    by true f ih =
        let same : x ≡ y = eqb-true x y f in
        let apart : nat_eq y g ≡ false = ne_eqb y g (λ s. e (same ∙ s)) in
        ih ∙ (omega arith ∙ ap (λ b. cond b 1 0 + tally (λ h. nat_eq h g) ys) (sym apart))
    by false f ih = ap (λ n. cond (nat_eq y g) 1 0 + n) ih

once : (xs : List ℕ) (g : ℕ) → tally (λ h. nat_eq h g) (distinct nat_eq xs) ≡ cond (has xs g) 1 0
once [] g = refl
once (x ∷ xs) g = by (nat_eq x g) refl (once xs g)
  where
    by : (b : Bool) → nat_eq x g ≡ b → tally (λ h. nat_eq h g) (distinct nat_eq xs) ≡ cond (has xs g) 1 0
        → cond b 1 0 + tally (λ h. nat_eq h g) (filter (λ y. not (nat_eq x y)) (distinct nat_eq xs)) ≡ cond (b || has xs g) 1 0
    by true e ih = ap (λ n. 1 + n) (removed (distinct nat_eq xs) x g (eqb-true x g e))
    by false e ih = omega (arith, untouched (distinct nat_eq xs) x g (eqb-false x g e), ih)

-- ---- the numbers of compartments

below_zero : (xs : List ℕ) → tally (λ h. nat_lt h 0) xs ≡ 0
below_zero [] = refl
below_zero (x ∷ xs) = let first = le-ltb x 0 (omega arith) in ap (λ b. cond b 1 0 + tally (λ h. nat_lt h 0) xs) first ∙ omega (arith, below_zero xs)

pub none_below : (groups : List ℕ) → compartment_number groups 0 ≡ 0
none_below groups = counted (λ h. nat_lt h 0) (used_groups groups) ∙ below_zero (used_groups groups)

pub one_below : (groups : List ℕ) (g : ℕ) → compartment_number groups (g + 1) ≡ compartment_number groups g + cond (has groups g) 1 0
one_below groups g =
    counted (λ h. nat_lt h (g + 1)) (used_groups groups)
    ∙ (below_more (used_groups groups) g ∙ (ap (λ n. tally (λ h. nat_lt h g) (used_groups groups) + n) (once groups g) ∙ ap (λ n. n + cond (has groups g) 1 0) (sym (counted (λ h. nat_lt h g) (used_groups groups)))))

used_below : (xs : List ℕ) (n : ℕ) → All (λ g. g < n) xs → All (λ g. g < n) (distinct nat_eq xs)
used_below [] n h = All-nil (λ g. g < n)
used_below (x ∷ xs) n h =
    All-cons (λ g. g < n) x (filter (λ y. not (nat_eq x y)) (distinct nat_eq xs)) (All-head (λ g. g < n) x xs h)
    (All-filter (λ y. not (nat_eq x y)) (λ g. g < n) (distinct nat_eq xs) (used_below xs n (All-tail (λ g. g < n) x xs h)))

all_counted : (xs : List ℕ) (n : ℕ) → All (λ g. g < n) xs → tally (λ h. nat_lt h n) xs ≡ length xs
all_counted [] n h = refl
all_counted (x ∷ xs) n h =
    let first = lt-ltb x n (All-head (λ g. g < n) x xs h) in
    let rest = all_counted xs n (All-tail (λ g. g < n) x xs h) in
    ap (λ b. cond b 1 0 + tally (λ h. nat_lt h n) xs) first ∙ omega (arith, rest)

pub all_below : (groups : List ℕ) (n : ℕ) → All (λ g. g < n) groups → compartment_number groups n ≡ length (used_groups groups)
all_below groups n h = counted (λ h. nat_lt h n) (used_groups groups) ∙ all_counted (used_groups groups) n (used_below groups n h)
