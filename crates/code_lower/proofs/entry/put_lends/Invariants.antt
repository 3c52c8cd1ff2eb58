use Rattle.std.proofs.Common.{◌≡◌, map, drop}
use Rattle.code_model.specs.Words.{plain}
use Rattle.code_model.specs.Entry.{lend_code}
use Rattle.code_model.specs.Emitted.{with_more, HasRoom}
use Rattle.code_lower.specs.Subjects.{lend_of}
use Rattle.code_lower.proofs.entry.put_lends.Given as goal

-- what was put and what is left are the whole
abbrev pub invariant-loop-lend : goal.invariant-loop-lend
invariant-loop-lend l =
    record {
      whole : with_more l.asm (plain (lend_code (map lend_of (drop l.lend-index l.lent)))) ≡ with_more l.initial.asm (plain (lend_code (map lend_of l.lent)));
      room : HasRoom l.asm (plain (lend_code (map lend_of (drop l.lend-index l.lent))));
    }
