use Rattle.std.proofs.Common.{◌≡◌, ◌+◌, drop}
use Rattle.std.specs.List.{position_or_len}
use Rattle.plan_model.specs.declared.graph.DataRegion.{DataRegion}
use Rattle.plan_model.specs.Lists.{has}
use Rattle.image_blocks.proofs.places.region_with.Given as goal

abbrev pub invariant-loop-number : goal.invariant-loop-number
invariant-loop-number l =
    l.number + position_or_len (λ (r : DataRegion). has r.globals l.global) (drop l.number l.graph.regions) ≡ position_or_len (λ (r : DataRegion). has r.globals l.global) l.graph.regions
