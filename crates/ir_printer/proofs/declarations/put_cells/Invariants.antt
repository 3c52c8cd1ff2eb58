use Rattle.std.proofs.Common.{◌≡◌, ◌++◌, take}
use Rattle.ir_grammar.specs.Spelling.{separated, spell_cell}
use Rattle.ir_printer.specs.Pieces.{as_bytes}
use Rattle.ir_printer.proofs.declarations.put_cells.Given as goal

abbrev pub invariant-loop-i : goal.invariant-loop-i
invariant-loop-i l = l.out.items ≡ l.initial.out.items ++ separated as_bytes (spell_cell as_bytes) (take l.i l.cells)
