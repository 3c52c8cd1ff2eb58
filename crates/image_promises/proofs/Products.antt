-- Products and quotients of numbers.
use Rattle.std.proofs.Common.{◌≡◌, ℕ, ◌+◌, ◌*◌, ◌/◌, ◌≤◌, arith}
use Rattle.ir_model.specs.Layout.{rounded_up}

pub times : (a b n : ℕ) → a ≤ b → a * n ≤ b * n
times a b n l = grind (arith, l)

pub one_more : (a n : ℕ) → (a + 1) * n ≡ a * n + n
one_more a n = grind arith

-- so many bytes, rounded up to whole words, are four times the words
pub whole_words : (n : ℕ) → 4 * (rounded_up n 4 / 4) ≡ rounded_up n 4
whole_words n = omega arith
