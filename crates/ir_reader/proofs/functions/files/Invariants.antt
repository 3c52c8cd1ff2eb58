use Rattle.std.proofs.Common.{◌≡◌, ◌≤◌, ◌-◌, length, ◌∷◌, ◌++◌, map, flat_map, List}
use Rattle.ir_model.specs.Plain.{file_of}
use Rattle.ir_reader.specs.Found.{finds}
use Rattle.ir_reader.specs.Machine as expected
use Rattle.ir_reader.specs.Machine.{Symbol, fault}
use Rattle.ir_reader.specs.Parts.{AllHaveBlocks}
use Rattle.ir_reader.specs.Scan.{placed}
use Rattle.ir_grammar.specs.Spelling.{spell_file}
use Rattle.ir_reader.specs.Spelling.{as_found}
use Rattle.ir_reader.proofs.functions.files.Given as goal

abbrev pub invariant-loop-files : goal.invariant-loop-files
invariant-loop-files l = record {
  spelled : finds (placed l.text) ≡ flat_map (spell_file as_found) (map file_of l.files.items) ++ finds (placed l.rest);
  passed : (st : List Symbol) → fault (expected.Files 0 0 ∷ st) (placed l.text) ≡ fault (expected.Files (length l.files.items) l.functions ∷ st) (placed l.rest);
  limit : length l.files.items ≤ 1024;
  functions : l.functions ≤ 1024;
  blocks : AllHaveBlocks (map file_of l.files.items);
}

abbrev pub decreases-loop-files : goal.decreases-loop-files
decreases-loop-files l = 1025 - length l.files.items
