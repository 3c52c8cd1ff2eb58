use Rattle.std.proofs.Common.{◌≡◌, ◌+◌, ◌%◌}
use Rattle.machine_thumb_asm.specs.Assembly.{here, total}
use Rattle.code_lower.specs.Subjects.{block_rest}
use Rattle.code_model.specs.Emitted.{with_more, HasRoom, AreNear}
use Rattle.code_lower.proofs.function.put_block.Given as goal

-- what was put and what is left are the whole
abbrev pub invariant-loop-place : goal.invariant-loop-place
invariant-loop-place l =
    record {
      whole : with_more l.asm (block_rest l.subject (here l.asm) l.block l.place) ≡ with_more l.initial.asm (block_rest l.subject (here l.initial.asm) l.block 0);
      room : HasRoom l.asm (block_rest l.subject (here l.asm) l.block l.place);
      near : AreNear (here l.asm) (here l.asm + total (block_rest l.subject (here l.asm) l.block l.place)) l.subject.places.now.entries;
      even : here l.asm % 2 ≡ 0;
    }
