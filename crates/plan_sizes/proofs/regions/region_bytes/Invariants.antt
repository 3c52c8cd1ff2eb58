use Rattle.std.proofs.Common.{◌≡◌, drop}
use Rattle.ir_program.specs.Seen.{program_of}
use Rattle.plan_model.specs.Blocks as blocks
use Rattle.plan_sizes.specs.Passing.{Passes}
use Rattle.plan_sizes.proofs.regions.region_bytes.Given as goal

-- what was made and what is left are the whole, and the whole passes 32 bits where what is left passes them
abbrev pub invariant-loop-global : goal.invariant-loop-global
invariant-loop-global l =
    (blocks.end_from (program_of l.program) l.at (drop l.global-index l.globals) ≡ blocks.region_bytes (program_of l.program) l.globals)
    × (Passes (program_of l.program) l.at (drop l.global-index l.globals) → Passes (program_of l.program) 0 l.globals)
