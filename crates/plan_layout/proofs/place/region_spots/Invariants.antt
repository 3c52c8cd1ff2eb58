use Rattle.std.proofs.Common.{◌≡◌, map}
use Rattle.plan_model.specs.Lists.{numbers_below}
use Rattle.plan_model.specs.RamBlocks.{ForRegion}
use Rattle.plan_model.specs.Placement.{placed_for}
use Rattle.plan_layout.specs.Filling.{ram_seen}
use Rattle.plan_layout.proofs.place.region_spots.Given as goal

abbrev pub invariant-loop-number : goal.invariant-loop-number
invariant-loop-number l = l.spots.items ≡ map (λ r. placed_for (ram_seen l.memory) (ForRegion r)) (numbers_below l.number)
