use Rattle.std.proofs.Common.{◌≡◌, ◌<◌, ◌≤◌, ◌+◌, length, ◌∷◌, ◌++◌, map, List, ◌-◌, ◌*◌}
use Rattle.ir_model.specs.Types.{type_of}
use Rattle.ir_reader.specs.Found.{finds}
use Rattle.ir_reader.specs.Machine.{Symbol, fault, Row, MoreRow}
use Rattle.ir_reader.specs.Scan.{placed}
use Rattle.ir_grammar.specs.Spelling.{spell_type, separated}
use Rattle.ir_reader.specs.Spelling.{as_found}
use Rattle.ir_reader.proofs.types.+types.Given as goal

abbrev pub decreases-boxed_result : goal.decreases-boxed_result
decreases-boxed_result l = 3 * (10 - l.around) + 2

abbrev pub decreases-ty : goal.decreases-ty
decreases-ty l = 3 * (10 - l.around) + 1

abbrev pub decreases-pointer : goal.decreases-pointer
decreases-pointer l = 3 * (10 - l.around)

abbrev pub decreases-array : goal.decreases-array
decreases-array l = 3 * (10 - l.around)

abbrev pub decreases-function : goal.decreases-function
decreases-function l = 3 * (10 - l.around)

abbrev pub decreases-row : goal.decreases-row
decreases-row l = 3 * (10 - l.around) + 2

abbrev pub invariant-row-loop-behind : goal.invariant-row-loop-behind
invariant-row-loop-behind l = record {
  spelled : finds (placed l.text) ≡ separated as_found (spell_type as_found) (map type_of l.types.items) ++ finds (placed l.rest);
  passed : (st : List Symbol) → fault (Row l.around ∷ st) (placed l.text) ≡ fault (MoreRow l.around (length l.types.items) ∷ st) (placed l.rest);
  some : 0 < length l.types.items;
  limit : length l.types.items ≤ 4;
}

abbrev pub decreases-row-loop-behind : goal.decreases-row-loop-behind
decreases-row-loop-behind l = 5 - length l.types.items
