use Rattle.std.proofs.Common.{◌≡◌, map, take}
use Rattle.plan_policies.proofs.policies.lent.Given as goal

abbrev pub invariant-loop-i : goal.invariant-loop-i
invariant-loop-i l = map (λ f. f.now) l.funcs.items ≡ take l.i l.facts
