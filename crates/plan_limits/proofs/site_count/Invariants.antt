use Rattle.std.proofs.Common.{◌≡◌, length, take}
use Rattle.std.specs.Prelude.{filter}
use Rattle.plan_model.specs.Crossing.{crosses}
use Rattle.plan_limits.proofs.site_count.Given as goal

abbrev pub invariant-loop-site : goal.invariant-loop-site
invariant-loop-site l = l.count ≡ length (filter (crosses l.groups) (take l.site-index l.needs.sites))
