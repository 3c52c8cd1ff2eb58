use Rattle.std.proofs.Common.{◌≡◌, map, take, Bor}
use Rattle.plan_graph.specs.declared.users.UserLists.{UserLists}
use Rattle.plan_graph.specs.UserLists.{users_seen, region_seen}
use Rattle.plan_graph.proofs.regions.regions.Given as goal

abbrev pub invariant-loop-i : goal.invariant-loop-i
invariant-loop-i l = l.regions.items ≡ map (region_seen l.all) (map (λ (kind : Bor UserLists). users_seen kind.now) (take l.i l.kinds.items))
