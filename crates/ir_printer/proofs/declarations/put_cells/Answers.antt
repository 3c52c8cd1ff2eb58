use Rattle.std.proofs.Common.{arith}
use Rattle.ir_grammar.specs.Spelling.{spell_cell}
use Rattle.ir_printer.specs.Pieces.{as_bytes}
use Rattle.ir_printer.proofs.Separated.{separated_step}
use Rattle.ir_printer.proofs.declarations.put_cells.Goals as goal

pub loop-i-preserved : goal.loop-i-preserved
loop-i-preserved c =
    separated_step (spell_cell as_bytes) c.args.cells.now c.loop-i.i c.index-cells-i.result c.args.out.now.items _ _ _
    (omega arith) (cc) c.loop-i.invariant c.in_ok-put_separator.ensures c.in_ok-put_cell.ensures
