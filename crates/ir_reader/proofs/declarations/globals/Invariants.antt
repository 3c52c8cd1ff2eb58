use Rattle.std.proofs.Common.{◌≡◌, ◌≤◌, ◌-◌, length, ◌∷◌, ◌++◌, map, flat_map, List}
use Rattle.ir_model.specs.Plain.{global_of}
use Rattle.ir_reader.specs.Found.{finds}
use Rattle.ir_reader.specs.Machine as expected
use Rattle.ir_reader.specs.Machine.{Symbol, fault}
use Rattle.ir_reader.specs.Scan.{placed}
use Rattle.ir_grammar.specs.Spelling.{spell_global}
use Rattle.ir_reader.specs.Spelling.{as_found}
use Rattle.ir_reader.proofs.declarations.globals.Given as goal

abbrev pub invariant-loop-globals : goal.invariant-loop-globals
invariant-loop-globals l = record {
  spelled : finds (placed l.text) ≡ flat_map (spell_global as_found) (map global_of l.globals.items) ++ finds (placed l.rest);
  passed : (st : List Symbol) → fault (expected.Globals 0 ∷ st) (placed l.text) ≡ fault (expected.Globals (length l.globals.items) ∷ st) (placed l.rest);
  limit : length l.globals.items ≤ 1024;
}

abbrev pub decreases-loop-globals : goal.decreases-loop-globals
decreases-loop-globals l = 1025 - length l.globals.items
