use Rattle.std.proofs.Common.{◌≡◌, map, filter, take, Bor}
use Rattle.plan_model.specs.InitialGraph.{has_users, same_users}
use Rattle.plan_model.specs.Lists.{distinct}
use Rattle.plan_graph.specs.declared.users.UserLists.{UserLists}
use Rattle.plan_graph.specs.UserLists.{users_seen}
use Rattle.plan_graph.proofs.regions.different.Given as goal

abbrev pub invariant-loop-i : goal.invariant-loop-i
invariant-loop-i l = map (λ (kind : Bor UserLists). users_seen kind.now) l.kinds.items ≡ distinct same_users (filter has_users (map users_seen (take l.i l.all)))
