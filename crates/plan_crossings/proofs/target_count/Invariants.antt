use Rattle.std.proofs.Common.{◌≡◌, ◌+◌, drop}
use Rattle.plan_model.specs.Crossing as crossing
use Rattle.plan_crossings.specs.Seen.{seen_sites}
use Rattle.plan_crossings.proofs.target_count.Given as goal

-- what was counted and what is left are the whole
abbrev pub invariant-loop-site : goal.invariant-loop-site
invariant-loop-site l = l.count + crossing.target_count (seen_sites (drop l.site-index l.sites)) ≡ crossing.target_count (seen_sites l.sites)
