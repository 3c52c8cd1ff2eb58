use Rattle.std.proofs.Common.{◌≡◌, map, drop}
use Rattle.ir_model.specs.Types.{same_row, types_from, type_of}
use Rattle.ir_types.proofs.equal.+equal.Given as goal

abbrev pub invariant-is_same_row-loop-i : goal.invariant-is_same_row-loop-i
invariant-is_same_row-loop-i l = same_row (types_from (map type_of l.a)) (types_from (map type_of l.b)) ≡ same_row (types_from (map type_of (drop l.i l.a))) (types_from (map type_of (drop l.i l.b)))
