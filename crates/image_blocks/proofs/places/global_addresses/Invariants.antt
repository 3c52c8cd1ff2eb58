use Rattle.std.proofs.Common.{◌≡◌, map}
use Rattle.ir_program.specs.Seen.{program_of}
use Rattle.plan_model.specs.Lists.{numbers_below}
use Rattle.plan_model.specs.Placement as placement
use Rattle.image_blocks.proofs.places.global_addresses.Given as goal

abbrev pub invariant-loop-global : goal.invariant-loop-global
invariant-loop-global l =
    l.addresses.items ≡ map (placement.global_address (program_of l.program) l.graph l.plan) (numbers_below l.global)
