use Rattle.std.proofs.Common.{◌≡◌, take}
use Rattle.ir_program.specs.Seen.{program_of}
use Rattle.plan_model.specs.RamPlacement.{region_sizes}
use Rattle.plan_layout.proofs.place.region_sizes.Given as goal

abbrev pub invariant-loop-region : goal.invariant-loop-region
invariant-loop-region l = l.sizes.items ≡ region_sizes (program_of l.program) (take l.region-index l.regions)
