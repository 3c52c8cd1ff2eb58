use Rattle.std.proofs.Common.{◌≡◌, ◌++◌, map}
use Rattle.plan_model.specs.Slots as slots
use Rattle.image_blocks.specs.Uses.{use_of, slots_left}
use Rattle.image_blocks.proofs.slots.slot_regions.Given as goal

abbrev pub invariant-loop-k : goal.invariant-loop-k
invariant-loop-k l = l.regions.items ++ slots_left l.k l.count l.uses ≡ slots.slots_from 4 l.count (map use_of l.uses)
