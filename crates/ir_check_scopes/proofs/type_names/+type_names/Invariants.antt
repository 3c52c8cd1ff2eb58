use Rattle.std.proofs.Common.{◌≡◌, map, drop}
use Rattle.ir_model.specs.Types.{types_from, type_of}
use Rattle.ir_model.specs.Typing.{first_failing, row_checks}
use Rattle.ir_check_scopes.specs.Spots.{place_of}
use Rattle.ir_check_scopes.proofs.type_names.+type_names.Given as goal

abbrev pub invariant-row_names-loop-ty : goal.invariant-row_names-loop-ty
invariant-row_names-loop-ty l = first_failing (row_checks l.declared (place_of l.spot) (types_from (map type_of l.types))) ≡ first_failing (row_checks l.declared (place_of l.spot) (types_from (map type_of (drop l.ty-index l.types))))
