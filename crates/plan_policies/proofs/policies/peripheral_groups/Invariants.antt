use Rattle.std.proofs.Common.{◌≡◌, take, map}
use Rattle.std.specs.List.{position_or_len}
use Rattle.plan_model.specs.declared.groups.FuncFacts.{FuncFacts}
use Rattle.plan_model.specs.Lists.{same_numbers}
use Rattle.plan_model.specs.Policies.{periph_lists}
use Rattle.plan_policies.proofs.policies.peripheral_groups.Given as goal

abbrev pub invariant-loop-i : goal.invariant-loop-i
invariant-loop-i l = l.groups.items ≡ map (λ (f : FuncFacts). position_or_len (λ qs. same_numbers qs f.periphs) (periph_lists l.facts)) (take l.i l.facts)
