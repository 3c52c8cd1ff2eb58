use Rattle.std.proofs.Common.{◌≡◌, drop, get_or, nat_eq}
use Rattle.std.specs.List.{position_or_len}
use Rattle.ir_program.specs.Seen.{program_of}
use Rattle.plan_model.specs.Blocks.{offsets_from, offset_in_region}
use Rattle.image_blocks.proofs.places.offset_in.Given as goal

abbrev pub invariant-loop-other : goal.invariant-loop-other
invariant-loop-other l =
    get_or (offsets_from (program_of l.program) l.at (drop l.other-index l.globals)) (position_or_len (λ y. nat_eq y l.global) (drop l.other-index l.globals)) 0
    ≡ offset_in_region (program_of l.program) l.globals l.global
