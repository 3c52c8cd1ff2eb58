use Rattle.std.proofs.Common.{◌≡◌, map}
use Rattle.plan_model.specs.Lists.{numbers_below}
use Rattle.plan_model.specs.Regions.{region_at}
use Rattle.plan_model.specs.Placement.{region_spot}
use Rattle.image_model.specs.LinkedTables.{Filled}
use Rattle.image_blocks.specs.Filling.{filled_of}
use Rattle.image_blocks.proofs.fill.filled_blocks.Given as goal

abbrev pub invariant-loop-number : goal.invariant-loop-number
invariant-loop-number l =
    map filled_of l.blocks.items
    ≡ map (λ r. let b : Filled = record { base = (region_spot l.plan r).base; globals = (region_at l.graph.regions r).globals } in b) (numbers_below l.number)
