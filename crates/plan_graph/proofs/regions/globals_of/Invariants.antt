use Rattle.std.proofs.Common.{◌≡◌, filter}
use Rattle.plan_model.specs.InitialGraph.{same_users}
use Rattle.plan_model.specs.Lists.{numbers_below}
use Rattle.plan_graph.specs.UserLists.{users_seen, users_at}
use Rattle.plan_graph.proofs.regions.globals_of.Given as goal

abbrev pub invariant-loop-global : goal.invariant-loop-global
invariant-loop-global l = l.globals.items ≡ filter (λ x. same_users (users_at l.all x) (users_seen l.kind)) (numbers_below l.global)
