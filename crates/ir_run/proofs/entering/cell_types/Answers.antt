use Rattle.std.proofs.Common.{◌++◌, ◌≤◌, ap, ◌∙◌, map, length, take, arith}
use Rattle.std.proofs.lemmas.List.{length-map, take_all}
use Rattle.ir_model.specs.Plain.{struct_of}
use Rattle.ir_model.specs.Layout.{known, CellPlace}
use Rattle.ir_cells.specs.Cells.{lent_types, types_of}
use Rattle.ir_program.specs.Storages.{shape_of}
use Rattle.ir_run.proofs.entering.cell_types.Goals as goal

pub returns : goal.returns
returns c =
    let count = c.args.storage.now.cells in
    let cells = (shape_of (known (map struct_of c.args.layouts.now)) c.args.storage.now).cells in
    let all : length (types_of cells) ≤ count = omega (arith, length-map cells (λ (p : CellPlace). p.ty)) in
    c.in_ok-put_cell_types.ensures
    ∙ (ap (λ xs. take count (lent_types xs ++ types_of cells)) c.new-types.ensures.items ∙ take_all count (types_of cells) all)
