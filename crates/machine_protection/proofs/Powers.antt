-- Powers of two.
use Rattle.std.proofs.Common.{◌≡◌, ◌≢◌, ℕ, ◌+◌, ◌*◌, ◌^◌, ◌<◌, ◌≤◌, ap, ◌∙◌, ⊎_elim, arith, pow_pos, lit<, w32}
use Rattle.std.specs.Int.{IsPowerOfTwo, bit_at, trailing_zeros}
use Rattle.std.proofs.Math.Nat.{pow-le-pow_right}
use Rattle.std.proofs.lemmas.Nat.{pow_below}
use Rattle.std.proofs.lemmas.Grind.{pow_more}
use Rattle.std.proofs.lemmas.Bool.{cases_order}
use Rattle.std.proofs.lemmas.Nat.Bits.{bit_at-trailing_zeros, bit_at-pow_other}

-- 0 is no power of two
pub zero_is_none : (n : ℕ) → n ≡ 0 → IsPowerOfTwo n → ⊥
zero_is_none n z p = let pos = pow_pos p.0 in let is = p.1 in omega arith

-- between two powers there is no other
pub between_is_none : (n r : ℕ) → 2 ^ r ≤ n → n < 2 * 2 ^ r → n ≢ 2 ^ r → IsPowerOfTwo n → ⊥
between_is_none n r low high ne p = ⊎_elim (λ e. ne (p.1 ∙ ap (λ k. 2 ^ k) e)) (λ other. ⊎_elim below above other) (cases_order p.0 r)
  where
    is : n ≡ 2 ^ p.0
    is = p.1

    below : p.0 < r → ⊥
    below lt = let lt' = pow_below p.0 r lt in omega (arith, is)

    above : r < p.0 → ⊥
    above lt = let le : r + 1 ≤ p.0 = omega arith in let le' : 2 ^ (r + 1) ≤ 2 ^ p.0 = pow-le-pow_right (lit< tt) le in let more = pow_more 2 r in omega (arith, is)

-- a power of two below 2 ^ 32 has its exponent as the number of zeros at its end
pub trailing_zeros-pow : (k : ℕ) → k < 32 → trailing_zeros w32 (2 ^ k) ≡ k
trailing_zeros-pow k lt = ⊎_elim (λ e. e) (λ other. absurd (apart (⊎_elim (λ h. omega arith) (λ h. omega arith) other))) (cases_order (trailing_zeros w32 (2 ^ k)) k)
  where
    found : bit_at (2 ^ k) (trailing_zeros w32 (2 ^ k)) ≡ 1
    found = (bit_at-trailing_zeros w32 (2 ^ k) (pow_pos k) (pow_below k 32 lt)).1

    apart : trailing_zeros w32 (2 ^ k) ≢ k → ⊥
    apart ne = let none = bit_at-pow_other k (trailing_zeros w32 (2 ^ k)) ne in omega (arith, found, none)
