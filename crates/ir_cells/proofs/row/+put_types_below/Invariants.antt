use Rattle.std.proofs.Common.{◌≡◌, ◌+◌, ◌++◌, map, take}
use Rattle.ir_model.specs.Types.{type_of}
use Rattle.ir_model.specs.Plain.{struct_of}
use Rattle.ir_model.proofs.Arrays.{arrays}
use Rattle.ir_cells.specs.Cells.{lent_types}
use Rattle.ir_cells.proofs.Weights.{structs_weight}
use Rattle.ir_cells.proofs.Rows.{repeated, row_of, fields_row}
use Rattle.ir_cells.proofs.row.+put_types_below.Given as goal

abbrev pub decreases-put_types_below : goal.decreases-put_types_below
decreases-put_types_below l = structs_weight (take l.below l.layouts.now) + arrays (type_of l.ty.now)

abbrev pub invariant-loop-done : goal.invariant-loop-done
invariant-loop-done l = lent_types l.types.items ≡ take l.most (lent_types l.initial.types.items ++ repeated l._done (row_of (map struct_of (take l.below l.layouts)) (type_of l.element.value)))

abbrev pub invariant-loop-field : goal.invariant-loop-field
invariant-loop-field l = lent_types l.types.items ≡ take l.most (lent_types l.initial.types.items ++ fields_row (map struct_of (take l.place l.layouts)) (take l.field-index l.field-items))
