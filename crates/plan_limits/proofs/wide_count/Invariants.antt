use Rattle.std.proofs.Common.{◌≡◌, length, take, None, nat_lt}
use Rattle.std.specs.Prelude.{filter, find}
use Rattle.plan_model.specs.declared.needs.SiteNeed.{SiteNeed}
use Rattle.plan_model.specs.Crossing.{crosses}
use Rattle.plan_limits.proofs.wide_count.Given as goal

abbrev pub invariant-loop-site : goal.invariant-loop-site
invariant-loop-site l = find (λ (s : SiteNeed). nat_lt 64 (length s.targets)) (filter (crosses l.groups) (take l.site-index l.needs.sites)) ≡ None
