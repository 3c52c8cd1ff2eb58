use Rattle.std.proofs.Common.{◌≡◌, take}
use Rattle.plan_model.specs.Policies.{filename_groups}
use Rattle.plan_policies.proofs.policies.filename_groups.Given as goal

abbrev pub invariant-loop-i : goal.invariant-loop-i
invariant-loop-i l = l.groups.items ≡ filename_groups (take l.i l.facts)
