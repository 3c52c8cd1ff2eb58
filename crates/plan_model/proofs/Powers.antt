-- The least power of two that passes a test, and the block that holds n bytes.
use Rattle.std.proofs.Common.{◌≡◌, ℕ, zero, suc, ◌+◌, ◌/◌, ◌^◌, ◌≤◌, ◌<◌, ◌⊎◌, inl, inr, Bool, true, false, cond, List, Some, max, nat_le, refl, lit<, sym, ap, subst, ◌∙◌, arith}
use Rattle.std.specs.Prelude.{find, map, unwrap_or}
use Rattle.std.specs.List.{range_with_len}
use Rattle.std.specs.Int.{IsPowerOfTwo}
use Rattle.std.proofs.Math.Pow.{pow_mono}
use Rattle.std.proofs.Math.Nat.{pow-suc}
use Rattle.std.proofs.lemmas.Bool.{cases_lt, leb-true, le-leb}
use mathlib.Core.Logic.{⊎_elim}
use Rattle.base_ranges.specs.Ranges.{IsPowerBetween}
use Rattle.plan_model.specs.Covers.{powers_of_two, least_power}
use Rattle.plan_model.specs.Blocks.{block_size_for}

-- the powers from 2 ^ a on, n of them
abbrev powers : (a n : ℕ) → List ℕ
powers a n = map (λ k. 2 ^ k) (range_with_len a n)

-- the first power that passes, where it is 2 ^ m
find_first : (test : ℕ → Bool) (a n m : ℕ) → a ≤ m → m < a + n → test (2 ^ m) ≡ true → ((i : ℕ) → a ≤ i → i < m → test (2 ^ i) ≡ false)
    → find test (powers a n) ≡ Some (2 ^ m)
find_first test a zero m l h p f = absurd (omega arith)
find_first test a (suc n) m l h p f =
    ⊎_elim (λ lt. later lt (λ lt. find_first test (a + 1) n m (omega arith) (omega arith) p (λ i u v. f i (omega arith) v))) here (cases_lt a m)
  where
    later : a < m → (a < m → find test (powers (a + 1) n) ≡ Some (2 ^ m)) → find test (powers a (suc n)) ≡ Some (2 ^ m)
    later lt rest = ap (λ b. cond b (Some (2 ^ a)) (find test (powers (a + 1) n))) (f a (omega arith) lt) ∙ rest lt

    here : m ≤ a → find test (powers a (suc n)) ≡ Some (2 ^ m)
    here le = let e : m ≡ a = omega arith in ap (λ b. cond b (Some (2 ^ a)) (find test (powers (a + 1) n))) (subst (λ k. test (2 ^ k) ≡ true) e p) ∙ ap (λ k. Some (2 ^ k)) (sym e)

-- the least power of two that passes, from 32 to 2 ^ 32
pub least_power_is : (test : ℕ → Bool) (m : ℕ) → 5 ≤ m → m ≤ 32 → test (2 ^ m) ≡ true → ((i : ℕ) → 5 ≤ i → i < m → test (2 ^ i) ≡ false) → least_power test ≡ 2 ^ m
unfolding least_power
least_power_is test m l h p f = ap (λ o. unwrap_or o (2 ^ 32)) (find_first test 5 28 m l (omega arith) p f)

-- the block of n bytes is 2 ^ m where that is the least power that holds them
pub block_is : (n m : ℕ) → 5 ≤ m → m ≤ 32 → n ≤ 2 ^ m → ((i : ℕ) → 5 ≤ i → i < m → 2 ^ i < n) → block_size_for n ≡ 2 ^ m
unfolding block_size_for
block_is n m l h holds below = least_power_is (nat_le n) m l h (le-leb n (2 ^ m) holds) (λ i u v. fails i (nat_le n (2 ^ i)) refl (below i u v))
  where
    fails : (i : ℕ) (b : Bool) → nat_le n (2 ^ i) ≡ b → 2 ^ i < n → nat_le n (2 ^ i) ≡ false
    fails i true e lt = let le = leb-true n (2 ^ i) e in absurd (omega arith)
    fails i false e lt = e

-- the size of the block for n bytes is what `next_power_of_two` gives of n and 32
pub next_power_is_block : (n p : ℕ) → n ≤ 2 ^ 32 → IsPowerOfTwo p → max n 32 ≤ p → p / 2 < max n 32 → block_size_for n ≡ p
next_power_is_block n p small (k, is) least most =
    block_is n k (⊎_elim (λ lt. absurd (too_small lt)) (λ le. le) (cases_lt k 5)) (⊎_elim (λ lt. absurd (too_large lt)) (λ le. le) (cases_lt 32 k)) (omega arith) below ∙ sym is
  where
    too_small : k < 5 → ⊥
    too_small lt = let le = pow_mono {i = k} {j = 4} (omega arith) in omega arith

    too_large : 32 < k → ⊥
    too_large lt = let le = pow_mono {i = 33} {j = k} lt in omega arith

    below : (i : ℕ) → 5 ≤ i → i < k → 2 ^ i < n
    below i u v = let twice = pow-suc 2 i in let le = pow_mono {i = suc i} {j = k} v in let from = pow_mono {i = 5} {j = i} u in omega arith

-- ---- a block of any number of bytes

-- a power that passes the test, or the last of all
abbrev Found : (test : ℕ → Bool) → (low size : ℕ) → Type 0
Found test a n = (IsPowerBetween a 32 n × (test n ≡ true)) ⊎ (n ≡ 2 ^ 32)

lower : (test : ℕ → Bool) (a n : ℕ) → Found test (a + 1) n → Found test a n
lower test a n (inl h) = inl ((h.0.0, omega (arith, h.0.1), h.0.2, h.0.3), h.1)
lower test a n (inr e) = inr e

found : (test : ℕ → Bool) (a n : ℕ) → a + n ≤ 33 → Found test a (unwrap_or (find test (map (λ k. 2 ^ k) (range_with_len a n))) (2 ^ 32))
found test a zero h = inr refl
found test a (suc n) h = by (test (2 ^ a)) refl (found test (a + 1) n (omega (arith, h)))
  where
    by : (b : Bool) → test (2 ^ a) ≡ b → Found test (a + 1) (unwrap_or (find test (map (λ k. 2 ^ k) (range_with_len (a + 1) n))) (2 ^ 32))
        → Found test a (unwrap_or (cond b (Some (2 ^ a)) (find test (map (λ k. 2 ^ k) (range_with_len (a + 1) n)))) (2 ^ 32))
    by true e ih = inl ((a, omega arith, omega (arith, h), refl), e)
    by false e ih = lower test a _ ih

-- it is a power of two from 32 on, and all that is to lie there has room; or it is 2 ^ 32
pub block_found : (n : ℕ) → (IsPowerBetween 5 32 (block_size_for n) × (n ≤ block_size_for n)) ⊎ (block_size_for n ≡ 2 ^ 32)
unfolding block_size_for least_power
block_found n = go (found (nat_le n) 5 28 (lit< tt))
  where
    go : Found (nat_le n) 5 (unwrap_or (find (nat_le n) powers_of_two) (2 ^ 32))
        → (IsPowerBetween 5 32 (unwrap_or (find (nat_le n) powers_of_two) (2 ^ 32)) × (n ≤ unwrap_or (find (nat_le n) powers_of_two) (2 ^ 32))) ⊎ (unwrap_or (find (nat_le n) powers_of_two) (2 ^ 32) ≡ 2 ^ 32)
    go (inl h) = inl (h.0, leb-true n (unwrap_or (find (nat_le n) powers_of_two) (2 ^ 32)) h.1)
    go (inr e) = inr e

-- a block that is smaller than 2 ^ 32 bytes
pub small_block : (n : ℕ) → block_size_for n < 2 ^ 32 → IsPowerBetween 5 32 (block_size_for n) × (n ≤ block_size_for n)
small_block n small = by (block_found n)
  where
    by : (IsPowerBetween 5 32 (block_size_for n) × (n ≤ block_size_for n)) ⊎ (block_size_for n ≡ 2 ^ 32) → IsPowerBetween 5 32 (block_size_for n) × (n ≤ block_size_for n)
    by (inl h) = h
    by (inr e) = absurd (omega (arith, small, e))

-- the block for at most 2 ^ 32 bytes
pub block_holds : (n : ℕ) → n ≤ 2 ^ 32 → n ≤ block_size_for n
block_holds n few = by (block_found n)
  where
    by : (IsPowerBetween 5 32 (block_size_for n) × (n ≤ block_size_for n)) ⊎ (block_size_for n ≡ 2 ^ 32) → n ≤ block_size_for n
    by (inl h) = h.1
    by (inr e) = omega (arith, few, e)
