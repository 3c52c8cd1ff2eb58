use Rattle.std.proofs.Common.{◌≡◌, ℕ, zero, suc, ◌<◌, ◌≤◌, ◌+◌, ◌-◌, ◌*◌, ◌/◌, ◌%◌, ◌^◌, Bool, false, cond, Some, None, refl, ap, ◌∙◌, arith}
use Rattle.std.proofs.Math.Nat.{pow-suc}
use Rattle.std.proofs.Math.Pow.{pow_mono}
use Rattle.std.proofs.lemmas.Nat.{pow-add}
use Rattle.std.proofs.lemmas.Bool.{cases_lt}
use Rattle.std.specs.Prelude.{find, map}
use Rattle.std.specs.List.{range_with_len}
use mathlib.Core.Logic.{⊎_elim}
use Rattle.base_laws.proofs.Multiples.{multiple_of}

pub none_found : (test : ℕ → Bool) (a n : ℕ) → ((i : ℕ) → a ≤ i → i < a + n → test (2 ^ i) ≡ false) → find test (map (λ k. 2 ^ k) (range_with_len a n)) ≡ None
none_found test a zero f = refl
none_found test a (suc n) f =
    ap (λ b. cond b (Some (2 ^ a)) (find test (map (λ k. 2 ^ k) (range_with_len (a + 1) n)))) (f a (omega arith) (omega arith))
    ∙ none_found test (a + 1) n (λ i u v. f i (omega arith) (omega arith))

-- an exponent is no greater where its power is none
pub smaller_exponent : (a b : ℕ) → 2 ^ a ≤ 2 ^ b → a ≤ b
smaller_exponent a b l = ⊎_elim (λ lt. absurd (wrong lt)) (λ le. le) (cases_lt b a)
  where
    wrong : b < a → ⊥
    wrong lt = let twice = pow-suc 2 b in let le = pow_mono {i = suc b} {j = a} lt in let one = pow_mono {i = 0} {j = b} (omega arith) in omega arith

-- a power is a multiple of each smaller one
pub power_split : (a k : ℕ) → a ≤ k → 2 ^ k ≡ 2 ^ a * 2 ^ (k - a)
power_split a k le = let e : k ≡ a + (k - a) = omega (arith, le) in ap (λ n. 2 ^ n) e ∙ pow-add 2 a (k - a)

-- so a multiple of a power is one of each smaller power
pub multiple_of_power : (x a k : ℕ) → a ≤ k → x % 2 ^ k ≡ 0 → x % 2 ^ a ≡ 0
multiple_of_power x a k le e = multiple_of x (2 ^ a) (2 ^ (k - a)) (2 ^ k) (power_split a k le) e

-- and a power from 8 on is eight eighths
pub eight_eighths : (k : ℕ) → 3 ≤ k → 8 * (2 ^ k / 8) ≡ 2 ^ k
eight_eighths k le = let m = power_split 3 k le in omega (arith, m)
