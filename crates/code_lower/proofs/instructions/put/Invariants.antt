use Rattle.std.proofs.Common.{◌≡◌, drop}
use Rattle.machine_thumb.specs.Bytes.{EachInTable}
use Rattle.code_model.specs.Words.{plain}
use Rattle.code_model.specs.Emitted.{with_more, HasRoom}
use Rattle.code_lower.proofs.instructions.put.Given as goal

-- what was put and what is left are the whole
abbrev pub invariant-loop-instruction : goal.invariant-loop-instruction
invariant-loop-instruction l =
    record {
      whole : with_more l.asm (plain (drop l.instruction-index l.code)) ≡ with_more l.initial.asm (plain l.code);
      in_table : EachInTable (drop l.instruction-index l.code);
      room : HasRoom l.asm (plain (drop l.instruction-index l.code));
    }
