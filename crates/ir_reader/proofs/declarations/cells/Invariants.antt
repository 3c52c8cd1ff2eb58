use Rattle.std.proofs.Common.{◌≡◌, ◌<◌, ◌≤◌, ◌-◌, length, ◌∷◌, ◌++◌, List}
use Rattle.ir_reader.specs.Found.{finds}
use Rattle.ir_reader.specs.Machine as expected
use Rattle.ir_reader.specs.Machine.{Symbol, fault}
use Rattle.ir_reader.specs.Scan.{placed}
use Rattle.ir_grammar.specs.Spelling.{separated, spell_cell}
use Rattle.ir_reader.specs.Spelling.{as_found}
use Rattle.ir_reader.proofs.declarations.cells.Given as goal

abbrev pub invariant-loop-behind : goal.invariant-loop-behind
invariant-loop-behind l = record {
  spelled : finds (placed l.text) ≡ separated as_found (spell_cell as_found) l.cells.items ++ finds (placed l.rest);
  passed : (st : List Symbol) → fault (expected.CellAt 0 ∷ expected.MoreCells 1 ∷ st) (placed l.text) ≡ fault (expected.MoreCells (length l.cells.items) ∷ st) (placed l.rest);
  some : 0 < length l.cells.items;
  limit : length l.cells.items ≤ 65536;
}

abbrev pub decreases-loop-behind : goal.decreases-loop-behind
decreases-loop-behind l = 65537 - length l.cells.items
