use Rattle.std.proofs.Common.{[]}
use Rattle.ir_program.specs.Parts.{routine_of}
use Rattle.code_offsets.specs.Walks.{IsReached}
use Rattle.code_offsets.proofs.walk.to_block.Given as goal

-- the place that was reached stands there
abbrev pub invariant-loop : goal.invariant-loop
invariant-loop l = IsReached (routine_of [] l.routine) l.sites l.lent l.at
