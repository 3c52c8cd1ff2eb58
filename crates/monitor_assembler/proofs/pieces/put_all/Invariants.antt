use Rattle.std.proofs.Common.{take}
use Rattle.monitor_assembler.specs.Emitted.{HasPut}
use Rattle.monitor_assembler.proofs.pieces.put_all.Given as goal

abbrev pub invariant-loop-instruction : goal.invariant-loop-instruction
invariant-loop-instruction l = HasPut l.initial.asm l.asm (take l.instruction-index l.code)
