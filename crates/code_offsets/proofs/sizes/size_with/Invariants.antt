use Rattle.std.proofs.Common.{◌≡◌, ◌+◌, [], map, drop}
use Rattle.ir_program.specs.Parts.{routine_of, sequence_of}
use Rattle.code_model.specs.Sizes as sizes
use Rattle.code_offsets.proofs.sizes.size_with.Given as goal

-- what was counted and what is left are the whole
abbrev pub invariant-loop-block : goal.invariant-loop-block
invariant-loop-block l =
    l.total + sizes.blocks_size (routine_of [] l.routine) l.sites l.lent l.block (map (sequence_of []) (drop l.block l.blocks))
    ≡ sizes.entry_size (routine_of [] l.routine) l.lent + sizes.blocks_size (routine_of [] l.routine) l.sites l.lent 0 (map (sequence_of []) l.blocks)
