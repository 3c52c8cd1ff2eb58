use Rattle.std.proofs.Common.{take, arith}
use Rattle.std.proofs.lemmas.List.{length-take}
use Rattle.plan_model.specs.Crossing.{crosses}
use Rattle.plan_limits.proofs.site_count.Goals as goal
use Rattle.base_laws.proofs.Lists.{few_kept as few}

pub overflow_add-count : goal.overflow_add-count
overflow_add-count c =
    let sites = c.args.needs.now.sites in
    let i = c.loop-site.site-index in
    let some = few (crosses c.args.groups.now) (take i sites) in
    let size = length-take i sites in
    omega arith
