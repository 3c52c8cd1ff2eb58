use Rattle.std.proofs.Common.{◌≡◌, drop}
use Rattle.code_model.specs.Places.{crosses}
use Rattle.code_offsets.proofs.sizes.is_crossing.Given as goal

-- the call is among the sites that are left, if it is among all
abbrev pub invariant-loop-site : goal.invariant-loop-site
invariant-loop-site l = crosses (drop l.site-index l.sites) l.block l.place ≡ crosses l.sites l.block l.place
