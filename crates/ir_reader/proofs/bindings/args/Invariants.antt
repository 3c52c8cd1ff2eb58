use Rattle.std.proofs.Common.{◌≡◌, ◌<◌, ◌≤◌, ◌-◌, length, ◌∷◌, ◌++◌, List}
use Rattle.ir_reader.specs.Found.{finds}
use Rattle.ir_reader.specs.Machine as expected
use Rattle.ir_reader.specs.Machine.{Symbol, fault}
use Rattle.ir_reader.specs.Scan.{placed}
use Rattle.ir_grammar.specs.Spelling.{separated, spell_word}
use Rattle.ir_reader.specs.Spelling.{as_found}
use Rattle.ir_reader.proofs.bindings.args.Given as goal

abbrev pub invariant-loop-behind : goal.invariant-loop-behind
invariant-loop-behind l = record {
  spelled : finds (placed l.text) ≡ separated as_found (spell_word as_found) l.args.items ++ finds (placed l.rest);
  passed : (st : List Symbol) → fault (expected.Args ∷ st) (placed l.text) ≡ fault (expected.MoreArgs (length l.args.items) ∷ st) (placed l.rest);
  some : 0 < length l.args.items;
  limit : length l.args.items ≤ 4;
}

abbrev pub decreases-loop-behind : goal.decreases-loop-behind
decreases-loop-behind l = 5 - length l.args.items
