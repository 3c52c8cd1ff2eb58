use Rattle.std.proofs.Common.{◌≡◌, ◌≤◌, ◌-◌, length, ◌∷◌, ◌++◌, flat_map, List}
use Rattle.ir_reader.specs.Found.{finds}
use Rattle.ir_reader.specs.Machine as expected
use Rattle.ir_reader.specs.Machine.{Symbol, fault}
use Rattle.ir_reader.specs.Scan.{placed}
use Rattle.ir_grammar.specs.Spelling.{spell_periph}
use Rattle.ir_reader.specs.Spelling.{as_found}
use Rattle.ir_reader.proofs.declarations.periphs.Given as goal

abbrev pub invariant-loop-left : goal.invariant-loop-left
invariant-loop-left l = record {
  spelled : finds (placed l.text) ≡ flat_map (spell_periph as_found) l.periphs.items ++ finds (placed l.rest);
  passed : (st : List Symbol) → fault (expected.Periphs 0 ∷ st) (placed l.text) ≡ fault (expected.Periphs (length l.periphs.items) ∷ st) (placed l.rest);
  limit : length l.periphs.items ≤ 64;
}

abbrev pub decreases-loop-left : goal.decreases-loop-left
decreases-loop-left l = 65 - length l.periphs.items
