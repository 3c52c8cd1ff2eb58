-- Sums of the first values of a function.
use Rattle.std.proofs.Common.{ℕ, zero, suc, ◌≤◌, arith}
use Rattle.need_sets.specs.Solutions.{total}

pub total_grows : (f g : ℕ → ℕ) (n : ℕ) → ((i : ℕ) → f i ≤ g i) → total f n ≤ total g n
total_grows f g zero h = omega arith
total_grows f g (suc n) h = let r = total_grows f g n h in let s = h n in omega arith
