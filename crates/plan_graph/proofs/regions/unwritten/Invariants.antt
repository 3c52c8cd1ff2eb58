use Rattle.std.proofs.Common.{◌≡◌, not, filter}
use Rattle.plan_model.specs.InitialGraph.{has_users}
use Rattle.plan_model.specs.Lists.{numbers_below}
use Rattle.plan_graph.specs.UserLists.{users_at}
use Rattle.plan_graph.proofs.regions.unwritten.Given as goal

abbrev pub invariant-loop-global : goal.invariant-loop-global
invariant-loop-global l = l.globals.items ≡ filter (λ x. not (has_users (users_at l.all x))) (numbers_below l.global)
