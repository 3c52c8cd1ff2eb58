use Rattle.std.proofs.Common.{◌≡◌, ◌+◌, drop}
use Rattle.ir_program.specs.Seen.{program_of}
use Rattle.plan_sizes.specs.Parts.{region_words}
use Rattle.plan_sizes.proofs.tables.region_words.Given as goal

-- what was counted and what is left are the whole
abbrev pub invariant-loop-region : goal.invariant-loop-region
invariant-loop-region l = l.total + region_words (program_of l.program) (drop l.region-index l.fin.regions) ≡ region_words (program_of l.program) l.fin.regions
