-- No more locals of a function are lent than its count of lent locals.
use Rattle.std.proofs.Common.{◌≡◌, ℕ, zero, suc, ◌+◌, ◌≤◌, ◌<◌, Bool, true, false, if◌then◌else◌, ◌&&◌, ◌||◌, nat_eq, Option, Some, None, is_some, List, [], ◌∷◌, length, map, refl, ap, ◌∙◌, arith}
use Rattle.std.specs.Prelude.{position, count_by, cond}
use Rattle.std.specs.List.{range_with_len, list_any}
use Rattle.std.proofs.lemmas.Bool.Decides.{nat_tests}
use Rattle.std.proofs.lemmas.List.Recursion.{is_count_by}
use Rattle.std.proofs.lemmas.Iterator.Adapters.{position_from-zero}
use Rattle.code_model.specs.Places.{lends_among}
use Rattle.plan_model.specs.Lending.{is_local}
use Rattle.base_laws.proofs.Lists.{position_there as found_is}

-- how many numbers pass a test
hits : (ℕ → Bool) → List ℕ → ℕ
hits q [] = 0
hits q (l ∷ ls) = if q l then suc (hits q ls) else hits q ls

few_lends : (ss : List ℕ) (g : ℕ → Option ℕ) (ls : List ℕ) → length (lends_among ss (map g ls)) ≤ hits (λ l. is_some (g l)) ls
unfolding hits
few_lends [] g ls = omega arith
few_lends (s ∷ ss) g [] = omega arith
few_lends (s ∷ ss) g (l ∷ ls) = by (g l) (few_lends ss g ls)
  where
    by : (x : Option ℕ) → length (lends_among ss (map g ls)) ≤ hits (λ l. is_some (g l)) ls → length (lends_among (s ∷ ss) (x ∷ map g ls)) ≤ (if is_some x then suc (hits (λ l. is_some (g l)) ls) else hits (λ l. is_some (g l)) ls)
    by None r = r
    by (Some n) r = omega arith

same_hits : (p q : ℕ → Bool) (ls : List ℕ) → ((l : ℕ) → p l ≡ q l) → hits p ls ≡ hits q ls
unfolding hits
same_hits p q [] e = refl
same_hits p q (l ∷ ls) e = let a = e l in let r = same_hits p q ls e in rw (a, r) refl

either_hits : (p q : ℕ → Bool) (ls : List ℕ) → hits (λ l. p l || q l) ls ≤ hits p ls + hits q ls
unfolding hits
either_hits p q [] = omega arith
either_hits p q (l ∷ ls) = by (p l) (q l) (either_hits p q ls)
  where
    by : (a b : Bool) → hits (λ l. p l || q l) ls ≤ hits p ls + hits q ls → (if a || b then suc (hits (λ l. p l || q l) ls) else hits (λ l. p l || q l) ls) ≤ (if a then suc (hits p ls) else hits p ls) + (if b then suc (hits q ls) else hits q ls)
    by true true h = omega arith
    by true false h = omega arith
    by false true h = omega arith
    by false false h = omega arith

no_hit : (y a n : ℕ) → y < a → hits (λ l. nat_eq y l) (range_with_len a n) ≡ 0
unfolding hits
no_hit y a zero h = refl
no_hit y a (suc n) h = let e : nat_eq y a ≡ false = grind (arith, nat_tests) in rw e (no_hit y (a + 1) n (omega arith))

one_hit : (y a n : ℕ) → hits (λ l. nat_eq y l) (range_with_len a n) ≤ 1
unfolding hits
one_hit y a zero = omega arith
one_hit y a (suc n) = by (nat_eq y a) refl (one_hit y (a + 1) n)
  where
    by : (b : Bool) → nat_eq y a ≡ b → hits (λ l. nat_eq y l) (range_with_len (a + 1) n) ≤ 1 → (if b then suc (hits (λ l. nat_eq y l) (range_with_len (a + 1) n)) else hits (λ l. nat_eq y l) (range_with_len (a + 1) n)) ≤ 1
    by true e h = let z : y ≡ a = grind (arith, nat_tests) in let r = no_hit y (a + 1) n (omega arith) in omega arith
    by false e h = h

none_hits : (ls : List ℕ) → hits (λ l. false) ls ≡ 0
unfolding hits
none_hits [] = refl
none_hits (l ∷ ls) = none_hits ls

-- pairs of a function
pairs : (f : ℕ) → List (ℕ × ℕ) → ℕ
pairs f [] = 0
pairs f (x ∷ xs) = cond (nat_eq x.0 f) (1 + pairs f xs) (pairs f xs)

pairs_are : (f : ℕ) (xs : List (ℕ × ℕ)) → pairs f xs ≡ count_by (λ (x : ℕ × ℕ). nat_eq x.0 f) xs
unfolding pairs
pairs_are f xs = is_count_by (pairs f) (λ (x : ℕ × ℕ). nat_eq x.0 f) refl (λ x ys. refl) xs

-- numbers of locals of one function among pairs
local_hits : (f a n : ℕ) (xs : List (ℕ × ℕ)) → hits (λ l. list_any (is_local f l) xs) (range_with_len a n) ≤ pairs f xs
unfolding pairs
local_hits f a n [] = let e = none_hits (range_with_len a n) in omega arith
local_hits f a n (x ∷ xs) = by (nat_eq x.0 f) (local_hits f a n xs)
  where
    by : (b : Bool) → hits (λ l. list_any (is_local f l) xs) (range_with_len a n) ≤ pairs f xs →
        hits (λ l. (b && nat_eq x.1 l) || list_any (is_local f l) xs) (range_with_len a n) ≤ cond b (1 + pairs f xs) (pairs f xs)
    by false h = h
    by true h = let e = either_hits (λ l. nat_eq x.1 l) (λ l. list_any (is_local f l) xs) (range_with_len a n) in let o = one_hit x.1 a n in omega arith

pub lends_counted : (ss : List ℕ) (f n : ℕ) (xs : List (ℕ × ℕ)) → length (lends_among ss (map (λ l. position (is_local f l) xs) (range_with_len 0 n))) ≤ count_by (λ (x : ℕ × ℕ). nat_eq x.0 f) xs
lends_counted ss f n xs =
    let a = few_lends ss (λ l. position (is_local f l) xs) (range_with_len 0 n) in
    let b = same_hits (λ l. is_some (position (is_local f l) xs)) (λ l. list_any (is_local f l) xs) (range_with_len 0 n) (λ l. ap is_some (position_from-zero (is_local f l) xs) ∙ found_is (is_local f l) 0 xs) in
    let c = local_hits f 0 n xs in
    let d = pairs_are f xs in
    omega arith
