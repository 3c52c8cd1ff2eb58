use Rattle.std.proofs.Common.{◌≡◌, false, take}
use Rattle.std.specs.List.{list_any}
use Rattle.plan_model.specs.InitialGraph.{same_users}
use Rattle.plan_graph.specs.UserLists.{users_seen}
use Rattle.plan_graph.proofs.regions.is_known.Given as goal

abbrev pub invariant-loop-i : goal.invariant-loop-i
invariant-loop-i l = list_any (λ kind. same_users (users_seen kind.now) (users_seen l.users)) (take l.i l.kinds) ≡ false
