-- Multiples of powers of two.
use Rattle.std.proofs.Common.{◌≡◌, ℕ, ◌%◌, ◌^◌, ◌≤◌, ap, subst, ◌∙◌}
use Rattle.std.specs.Int.{IsPowerOfTwo}
use Rattle.base_laws.proofs.Powers.{smaller_exponent, multiple_of_power}

-- a power of two divides a greater one
pub divides : (b z : ℕ) → IsPowerOfTwo z → z ≤ 2 ^ 20 → b % 2 ^ 20 ≡ 0 → b % z ≡ 0
divides b z p le h = ap (λ z. b % z) p.1 ∙ multiple_of_power b p.0 20 (smaller_exponent p.0 20 (subst (λ n. n ≤ 2 ^ 20) p.1 le)) h
