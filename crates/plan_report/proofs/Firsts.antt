-- The first address of a range that passes a test: by what lies before it, and by more tests than one.
use Rattle.std.proofs.Common.{◌≡◌, ℕ, ◌+◌, ◌-◌, ◌<◌, ◌≤◌, ◌||◌, ⊎_elim, Bool, true, false, not, length, get_or, subst, sym, ◌∙◌, arith}
use Rattle.std.specs.List.{range_with_len, position_or_len}
use Rattle.std.proofs.lemmas.Bool.{cases_lt, or_from, or_left, or_right}
use Rattle.std.proofs.lemmas.List.Sums.{prefix_len-le-length, position_or_len_is, fails_before_first, passes_at_first}
use Rattle.std.proofs.lemmas.List.FromFn.{length-range_with_len, get_or-range_with_len}

-- how many of n addresses, from a on, come before the first that passes
abbrev pub count : (ℕ → Bool) → (a n : ℕ) → ℕ
count t a n = position_or_len t (range_with_len a n)

pub within : (t : ℕ → Bool) (a n : ℕ) → count t a n ≤ n
within t a n =
    let few : count t a n ≤ length (range_with_len a n) = prefix_len-le-length (λ x. not (t x)) (range_with_len a n) in
    omega (arith, few, length-range_with_len a n)

pub before : (t : ℕ → Bool) (a n b : ℕ) → a ≤ b → b < a + count t a n → t b ≡ false
before t a n b l h =
    let few : count t a n ≤ n = within t a n in
    let inside : b - a < count t a n = omega (arith, l, h) in
    let there : get_or (range_with_len a n) (b - a) 0 ≡ a + (b - a) = get_or-range_with_len a n (b - a) 0 (omega (arith, inside, few)) in
    let same : get_or (range_with_len a n) (b - a) 0 ≡ b = omega (arith, there, l) in
    subst (λ x. t x ≡ false) same (fails_before_first t (range_with_len a n) (b - a) 0 inside)

pub stops : (t : ℕ → Bool) (a n : ℕ) → count t a n < n → t (a + count t a n) ≡ true
stops t a n h =
    let inside : count t a n < length (range_with_len a n) = omega (arith, h, length-range_with_len a n) in
    subst (λ x. t x ≡ true) (get_or-range_with_len a n (count t a n) 0 h) (passes_at_first t (range_with_len a n) 0 inside)

pub count_is : (t : ℕ → Bool) (a n k : ℕ) → k ≤ n → ((b : ℕ) → a ≤ b → b < a + k → t b ≡ false) → (k < n → t (a + k) ≡ true) → count t a n ≡ k
count_is t a n k l none some =
    position_or_len_is t (range_with_len a n) k 0 (omega (arith, l, length-range_with_len a n))
    (λ j h. let g : j < n = omega (arith, h, l) in subst (λ x. t x ≡ false) (sym (get_or-range_with_len a n j 0 g)) (none (a + j) (omega arith) (omega (arith, h))))
    (λ h. let g : k < n = omega (arith, h, length-range_with_len a n) in subst (λ x. t x ≡ true) (sym (get_or-range_with_len a n k 0 g)) (some g))

-- by one of two tests: by the second, of the addresses before the first that passes the first test
pub either : (s t u : ℕ → Bool) (a n : ℕ) → ((b : ℕ) → u b ≡ (s b || t b)) → count u a n ≡ count t a (count s a n)
either s t u a n e =
    let m : ℕ = count s a n in
    let k : ℕ = count t a m in
    let few : m ≤ n = within s a n in
    let fewer : k ≤ m = within t a m in
    count_is u a n k (omega (arith, few, fewer))
    (λ b l h. e b ∙ or_from (s b) (t b) (before s a n b l (omega (arith, h, fewer))) (before t a m b l h))
    (λ h. e (a + k) ∙ ⊎_elim
    (λ less. or_right (s (a + k)) (t (a + k)) (stops t a m less))
    (λ more. let same : m ≡ k = omega (arith, fewer, more) in
    or_left (s (a + k)) (t (a + k)) (subst (λ j. s (a + j) ≡ true) same (stops s a n (omega (arith, h, same)))))
    (cases_lt k m))
