use Rattle.std.proofs.Common.{◌≡◌, length, take, map, Bor}
use Rattle.std.specs.List.{fold}
use Rattle.plan_model.specs.declared.groups.FuncFacts.{FuncFacts}
use Rattle.plan_model.specs.Policies.{filename_groups, move}
use Rattle.plan_policies.proofs.policies.optimized_groups.Given as goal

abbrev pub invariant-loop-i : goal.invariant-loop-i
invariant-loop-i l = record {
  each : length l.groups.items ≡ length l.facts;
  groups : l.groups.items ≡ fold move (filename_groups l.facts) (map (λ (f : Bor FuncFacts). f.now) (take l.i l.sorted.items));
}
