use Rattle.std.proofs.Common.{◌+◌, take}
use Rattle.ir_model.specs.Types.{type_of}
use Rattle.ir_model.proofs.Arrays.{arrays}
use Rattle.ir_cells.proofs.Weights.{structs_weight}
use Rattle.ir_cells.proofs.spot.+cell_below.Given as goal

abbrev pub decreases-cell_below : goal.decreases-cell_below
decreases-cell_below l = structs_weight (take l.below l.layouts.now) + arrays (type_of l.ty.now)
