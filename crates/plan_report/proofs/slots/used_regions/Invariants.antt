use Rattle.std.proofs.Common.{◌≡◌, filter}
use Rattle.plan_model.specs.Regions.{is_user, region_at}
use Rattle.plan_model.specs.Lists.{numbers_below}
use Rattle.plan_report.proofs.slots.used_regions.Given as goal

abbrev pub invariant-loop-region : goal.invariant-loop-region
invariant-loop-region l = l.used.items ≡ filter (λ r. is_user l.compartment (region_at l.regions r)) (numbers_below l.region)
