-- The decimal digits of numbers below 2^64, behind other bytes.
use Rattle.std.proofs.Common.{◌≡◌, ℕ, ◌+◌, ◌/◌, ◌%◌, ◌<◌, ◌≤◌, ◌^◌, List, [], ◌∷◌, ◌++◌, length, arith, ap, ◌∙◌, length-append, append_assoc}
use Rattle.std.specs.Fmt.{decimal}
use Rattle.std.proofs.lemmas.Fmt.{decimal_step, length-decimal-le}

pub decimal_length : (n : ℕ) → 10 ≤ n → n < 2 ^ 64 → length (decimal n) ≡ length (decimal (n / 10)) + 1
decimal_length n h k = ap length (decimal_step n h k) ∙ length-append (decimal (n / 10)) ((48 + n % 10) ∷ [])

-- the digits but the last leave room for it
pub room_for_last : (old mid : List ℕ) (n : ℕ) → 10 ≤ n → n < 2 ^ 64 → length old + length (decimal n) ≤ 256
    → mid ≡ old ++ decimal (n / 10) → length mid < 256
room_for_last old mid n h k room e =
    omega (arith, decimal_length n h k, ap length e, length-append old (decimal (n / 10)))

-- the last digit behind the others
pub with_last : (old mid new : List ℕ) (n : ℕ) → 10 ≤ n → n < 2 ^ 64
    → mid ≡ old ++ decimal (n / 10) → new ≡ mid ++ ((48 + n % 10) ∷ []) → new ≡ old ++ decimal n
with_last old mid new n h k e f = rw (f, e, decimal_step n h k) (append_assoc old (decimal (n / 10)) ((48 + n % 10) ∷ []))

pub decimal_short : (n : ℕ) → n < 2 ^ 64 → length (decimal n) ≤ 20
decimal_short n h = length-decimal-le 20 n (omega arith) (omega arith) h
