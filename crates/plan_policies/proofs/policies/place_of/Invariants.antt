use Rattle.std.proofs.Common.{◌≡◌, ℕ, ◌<◌, false, List, get_or, Bor}
use Rattle.plan_model.specs.Lists.{same_numbers}
use Rattle.plan_policies.proofs.policies.place_of.Given as goal

abbrev pub invariant-loop-i : goal.invariant-loop-i
invariant-loop-i l = (k : ℕ) (d : Bor (List ℕ)) → k < l.i → same_numbers (get_or l.lists k d).now l.numbers ≡ false
