use Rattle.std.proofs.Common.{◌≡◌, ◌+◌, ◌-◌, ◌%◌, ◌++◌, length, take, drop, replicate, None}
use Rattle.machine_thumb_asm.specs.Assembly.{here, total}
use Rattle.code_lower.specs.Subjects.{func_of, first_label, rest_items, rest_labels}
use Rattle.code_model.specs.Emitted.{HasRoom, AreNear}
use Rattle.code_lower.proofs.function.put_blocks.Given as goal

-- what was put and what is left are the whole, and the labels that are left are not put
abbrev pub invariant-loop-block : goal.invariant-loop-block
invariant-loop-block l =
    record {
      base : l.asm.base ≡ l.initial.asm.base;
      items : l.asm.items ++ rest_items l.subject (here l.asm) l.block ≡ l.initial.asm.items ++ rest_items l.subject (here l.initial.asm) 0;
      labels : take (first_label l.subject.labels.items + l.block) l.asm.places ++ rest_labels l.subject (here l.asm) l.block
          ≡ take (first_label l.subject.labels.items) l.initial.asm.places ++ rest_labels l.subject (here l.initial.asm) 0;
      free : drop (first_label l.subject.labels.items + l.block) l.asm.places ≡ replicate (length (func_of l.subject).blocks - l.block) None;
      room : HasRoom l.asm (rest_items l.subject (here l.asm) l.block);
      near : AreNear (here l.asm) (here l.asm + total (rest_items l.subject (here l.asm) l.block)) l.subject.places.now.entries;
      even : here l.asm % 2 ≡ 0;
    }
