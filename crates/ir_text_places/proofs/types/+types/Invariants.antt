use Rattle.std.proofs.Common.{◌≡◌, take, map}
use Rattle.ir_model.specs.Types.{type_of, types_from}
use Rattle.ir_text_places.specs.Sizes.{row_size}
use Rattle.ir_text_places.proofs.types.+types.Given as goal

abbrev pub invariant-row_size-loop-ty : goal.invariant-row_size-loop-ty
invariant-row_size-loop-ty l = l.size ≡ row_size (types_from (map type_of (take l.ty-index l.types)))
