use Rattle.std.proofs.Common.{◌≡◌, ◌-◌}
use Rattle.code_model.specs.Words.{plain}
use Rattle.code_model.specs.Entry.{stores_code}
use Rattle.code_model.specs.Emitted.{with_more, HasRoom}
use Rattle.code_lower.proofs.entry.put_clears.Given as goal

-- what was put and what is left are the whole
abbrev pub invariant-loop-k : goal.invariant-loop-k
invariant-loop-k l =
    record {
      whole : with_more l.asm (plain (stores_code (λ k. 0) (l.words - l.k) l.k)) ≡ with_more l.initial.asm (plain (stores_code (λ k. 0) (l.words - l.from) l.from));
      room : HasRoom l.asm (plain (stores_code (λ k. 0) (l.words - l.k) l.k));
    }
