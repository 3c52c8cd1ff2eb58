use Rattle.std.proofs.Common.{◌≡◌, map, filter}
use Rattle.ir_program.specs.Seen.{program_of}
use Rattle.plan_model.specs.Lists.{numbers_below}
use Rattle.plan_model.specs.Regions.{is_user, region_at}
use Rattle.plan_model.specs.Slots as slots
use Rattle.image_blocks.specs.Uses.{use_of}
use Rattle.image_blocks.proofs.slots.data_slots.Given as goal

abbrev pub invariant-loop-number : goal.invariant-loop-number
invariant-loop-number l =
    map use_of l.uses.items
    ≡ map (slots.data_slot (program_of l.program) l.graph l.plan l.compartment) (filter (λ r. is_user l.compartment (region_at l.graph.regions r)) (numbers_below l.number))
