use Rattle.std.proofs.Common.{◌≡◌, map}
use Rattle.plan_model.specs.InitialGraph.{users_of}
use Rattle.plan_model.specs.Lists.{numbers_below}
use Rattle.plan_graph.specs.UserLists.{users_seen}
use Rattle.plan_graph.proofs.users.all_users.Given as goal

abbrev pub invariant-loop-global : goal.invariant-loop-global
invariant-loop-global l = map users_seen l.all.items ≡ map (users_of l.needs l.groups) (numbers_below l.global)
