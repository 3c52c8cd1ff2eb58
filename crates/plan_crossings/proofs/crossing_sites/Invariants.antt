use Rattle.std.proofs.Common.{◌≡◌, ◌++◌, filter, drop}
use Rattle.plan_model.specs.Crossing as crossing
use Rattle.plan_crossings.specs.Seen.{seen_sites}
use Rattle.plan_crossings.proofs.crossing_sites.Given as goal

-- what was found and what is left are the whole
abbrev pub invariant-loop-site : goal.invariant-loop-site
invariant-loop-site l =
    seen_sites l.sites.items ++ filter (crossing.crosses l.groups) (drop l.site-index l.needs.sites) ≡ filter (crossing.crosses l.groups) l.needs.sites
