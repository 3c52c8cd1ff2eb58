use Rattle.std.proofs.Common.{◌≡◌, map, take}
use Rattle.plan_model.specs.Compartments.{compartment_number}
use Rattle.plan_policies.proofs.numbering.compartments_by_group.Given as goal

abbrev pub invariant-loop-i : goal.invariant-loop-i
invariant-loop-i l = l.of.items ≡ map (compartment_number l.groups) (take l.i l.groups)
