use Rattle.std.proofs.Common.{◌≡◌, ◌++◌, drop}
use Rattle.ir_program.specs.Seen.{program_of}
use Rattle.image_model.specs.LinkedTables as records
use Rattle.image_entries.proofs.records.lend_sizes.Given as goal

-- what was made and what is left are the whole
abbrev pub invariant-loop-pair : goal.invariant-loop-pair
invariant-loop-pair l =
    l.sizes.items ++ records.lend_sizes (program_of l.program) (drop l.pair-index l.lent) ≡ records.lend_sizes (program_of l.program) l.lent
