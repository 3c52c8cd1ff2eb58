use Rattle.std.proofs.Common.{◌≡◌, ◌++◌, map, drop}
use Rattle.ir_program.specs.Seen.{program_of}
use Rattle.image_model.specs.LinkedTables as records
use Rattle.image_blocks.specs.Filling.{filled_of}
use Rattle.image_blocks.proofs.fill.init_records.Given as goal

-- what was made and what is left are the whole
abbrev pub invariant-loop-block : goal.invariant-loop-block
invariant-loop-block l =
    l.all.items ++ records.init_records (program_of l.program) l.next (map filled_of (drop l.block-index l.blocks)) ≡ records.init_records (program_of l.program) l.from (map filled_of l.blocks)
