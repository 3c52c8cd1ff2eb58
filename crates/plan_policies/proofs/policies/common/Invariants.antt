use Rattle.std.proofs.Common.{◌≡◌, true, get_or, take, nat_eq}
use Rattle.std.specs.List.{list_all}
use Rattle.plan_policies.proofs.policies.common.Given as goal

abbrev pub invariant-loop-i : goal.invariant-loop-i
invariant-loop-i l = list_all (λ h. nat_eq (get_or l.groups h 0) l.group) (take l.i l.funcs) ≡ true
