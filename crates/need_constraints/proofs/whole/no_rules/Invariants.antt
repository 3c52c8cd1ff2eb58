use Rattle.std.proofs.Common.{◌≡◌, ℕ, get_or, []}
use Rattle.need_sets.specs.Rules.{lists_in}
use Rattle.need_constraints.proofs.whole.no_rules.Given as goal

abbrev pub invariant-loop : goal.invariant-loop
invariant-loop l = (n : ℕ) → get_or (lists_in l.triggers) n [] ≡ []
