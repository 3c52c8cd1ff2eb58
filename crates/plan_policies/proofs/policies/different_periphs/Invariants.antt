use Rattle.std.proofs.Common.{◌≡◌, take, map}
use Rattle.plan_model.specs.Policies.{periph_lists}
use Rattle.plan_policies.proofs.policies.different_periphs.Given as goal

abbrev pub invariant-loop-i : goal.invariant-loop-i
invariant-loop-i l = map (λ l. l.now) l.lists.items ≡ periph_lists (take l.i l.facts)
