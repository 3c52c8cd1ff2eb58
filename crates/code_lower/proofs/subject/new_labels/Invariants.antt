use Rattle.std.proofs.Common.{◌≡◌, ◌++◌, replicate, length, None}
use Rattle.code_lower.specs.Subjects.{labels_from}
use Rattle.code_lower.proofs.subject.new_labels.Given as goal

abbrev pub invariant-loop-k : goal.invariant-loop-k
invariant-loop-k l =
    record {
      labels : l.labels.items ≡ labels_from (length l.initial.asm.places) l.k;
      asm : l.asm ≡ record l.initial.asm { places = l.initial.asm.places ++ replicate l.k None };
    }
