use Rattle.std.proofs.Common.{◌≡◌, take}
use Rattle.ir_text_places.specs.Sizes.{cells_size}
use Rattle.ir_text_places.proofs.declarations.cells_size.Given as goal

abbrev pub invariant-loop-cell : goal.invariant-loop-cell
invariant-loop-cell l = l.size ≡ cells_size (take l.cell-index l.cells)
