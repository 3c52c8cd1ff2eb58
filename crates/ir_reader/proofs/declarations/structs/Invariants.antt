use Rattle.std.proofs.Common.{◌≡◌, ◌≤◌, ◌-◌, length, ◌∷◌, ◌++◌, map, flat_map, List}
use Rattle.ir_model.specs.Plain.{struct_of}
use Rattle.ir_reader.specs.Found.{finds}
use Rattle.ir_reader.specs.Machine as expected
use Rattle.ir_reader.specs.Machine.{Symbol, fault}
use Rattle.ir_reader.specs.Reading.{HasFields}
use Rattle.ir_reader.specs.Scan.{placed}
use Rattle.ir_grammar.specs.Spelling.{spell_struct}
use Rattle.ir_reader.specs.Spelling.{as_found}
use Rattle.ir_reader.proofs.declarations.structs.Given as goal

abbrev pub invariant-loop-left : goal.invariant-loop-left
invariant-loop-left l = record {
  spelled : finds (placed l.text) ≡ flat_map (spell_struct as_found) (map struct_of l.structs.items) ++ finds (placed l.rest);
  passed : (st : List Symbol) → fault (expected.Structs 0 ∷ st) (placed l.text) ≡ fault (expected.Structs (length l.structs.items) ∷ st) (placed l.rest);
  limit : length l.structs.items ≤ 256;
  fields : HasFields (map struct_of l.structs.items);
}

abbrev pub decreases-loop-left : goal.decreases-loop-left
decreases-loop-left l = 257 - length l.structs.items
