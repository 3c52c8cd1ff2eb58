use Rattle.std.proofs.Common.{◌≡◌, drop}
use Rattle.code_model.specs.Places as definition
use Rattle.code_lower.proofs.subject.site_in.Given as goal

-- the call is among the sites that are left, if it is among all
abbrev pub invariant-loop-site : goal.invariant-loop-site
invariant-loop-site l = definition.site_in (drop l.site-index l.sites) l.block l.place ≡ definition.site_in l.sites l.block l.place
