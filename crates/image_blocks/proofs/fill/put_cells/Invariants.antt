use Rattle.std.proofs.Common.{◌≡◌, map, drop}
use Rattle.ir_model.specs.Types.{type_of}
use Rattle.ir_model.specs.Layout.{shape}
use Rattle.ir_model.specs.Resolve.{filled}
use Rattle.ir_program.specs.Seen.{known_of}
use Rattle.ir_program.specs.Values.{value_of}
use Rattle.image_model.specs.FirstWords.{with_cells}
use Rattle.image_blocks.specs.Filling.{object_places, cells_put}
use Rattle.image_blocks.proofs.fill.put_cells.Given as goal

abbrev pub invariant-loop-number : goal.invariant-loop-number
invariant-loop-number l =
    with_cells (object_places l.addresses) l.at (drop l.number (shape (known_of l.program) (type_of l.variable.storage.ty.now)).cells)
    (filled (drop l.number (shape (known_of l.program) (type_of l.variable.storage.ty.now)).cells) (drop l.number (map value_of l.variable.init))) l.memory
    ≡ cells_put (known_of l.program) (object_places l.addresses) l.variable l.at l.initial.memory
