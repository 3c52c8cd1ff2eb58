use Rattle.std.proofs.Common.{◌≡◌, filter}
use Rattle.plan_model.specs.Lists.{numbers_below}
use Rattle.plan_model.specs.Regions.{is_user, region_at}
use Rattle.plan_graph.proofs.merging.Merging.regions_used.Given as goal

abbrev pub invariant-loop-place : goal.invariant-loop-place
invariant-loop-place l = l.used.items ≡ filter (λ r. is_user l.compartment (region_at l.self.graph.regions r)) (numbers_below l.place)
