use Rattle.std.proofs.Common.{◌≡◌, ℕ, ◌<◌, false, get_or, nat_eq}
use Rattle.plan_layout.proofs.numbers.first_greatest.Given as goal

abbrev pub invariant-loop-place : goal.invariant-loop-place
invariant-loop-place l = (k : ℕ) → k < l.place → nat_eq (get_or l.numbers k 0) l.most ≡ false
