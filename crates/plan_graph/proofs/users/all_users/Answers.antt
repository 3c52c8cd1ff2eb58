use Rattle.std.proofs.Common.{map, ap, ◌∙◌}
use Rattle.std.proofs.lemmas.List.{map_push}
use Rattle.plan_model.specs.InitialGraph.{users_of}
use Rattle.plan_graph.specs.UserLists.{users_seen}
use Rattle.plan_graph.proofs.users.all_users.Goals as goal
use Rattle.plan_model.proofs.Numbers.{mapped_more}

pub loop-global-preserved : goal.loop-global-preserved
loop-global-preserved c =
    mapped_more (users_of c.args.needs.now c.args.groups.now) c.loop-global.global (map users_seen c.loop-global.all.items) _ (users_seen c.in_ok-users.field-0) c.loop-global.invariant c.in_ok-users.ensures
    (ap (map users_seen) c.in_ok-push.ensures.items ∙ map_push users_seen c.loop-global.all.items c.in_ok-users.field-0)
