use Rattle.std.proofs.Common.{◌≡◌, ◌++◌, map, drop}
use Rattle.std.specs.List.{All}
use Rattle.code_model.specs.Places.{lends_among}
use Rattle.code_lower.specs.Subjects.{lend_of, IsSmallLend}
use Rattle.code_lower.proofs.subject.lent_among.Given as goal

-- what was found and what is left are the whole
abbrev pub invariant-loop-k : goal.invariant-loop-k
invariant-loop-k l =
    record {
      whole : map lend_of l.lent.items ++ lends_among (drop l.k l.starts) (drop l.k l.numbers) ≡ lends_among l.starts l.numbers;
      small : All IsSmallLend l.lent.items;
    }
