use Rattle.std.proofs.Common.{◌≡◌, ℕ, ◌<◌, ◌≤◌, ◌/◌, ◌^◌, false, nat_eq}
use Rattle.plan_model.specs.Covers.{lowest, highest}
use Rattle.plan_graph.proofs.joined.joined_size.Given as goal

abbrev pub invariant-loop-exponent : goal.invariant-loop-exponent
invariant-loop-exponent l = (k : ℕ) → 5 ≤ k → k < l.exponent → nat_eq (lowest l.one l.other / 2 ^ k) (highest l.one l.other / 2 ^ k) ≡ false
