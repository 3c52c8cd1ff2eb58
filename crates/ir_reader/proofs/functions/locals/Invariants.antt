use Rattle.std.proofs.Common.{◌≡◌, ◌≤◌, ◌-◌, length, ◌∷◌, ◌++◌, map, flat_map, List}
use Rattle.ir_model.specs.Plain.{binding_of}
use Rattle.ir_reader.specs.Found.{finds}
use Rattle.ir_reader.specs.Machine as expected
use Rattle.ir_reader.specs.Machine.{Symbol, fault}
use Rattle.ir_reader.specs.Scan.{placed}
use Rattle.ir_grammar.specs.Spelling.{spell_local}
use Rattle.ir_reader.specs.Spelling.{as_found}
use Rattle.ir_reader.proofs.functions.locals.Given as goal

abbrev pub invariant-loop-left : goal.invariant-loop-left
invariant-loop-left l = record {
  spelled : finds (placed l.text) ≡ flat_map (spell_local as_found) (map binding_of l.locals.items) ++ finds (placed l.rest);
  passed : (st : List Symbol) → fault (expected.Locals 0 l.params ∷ st) (placed l.text) ≡ fault (expected.Locals (length l.locals.items) l.params ∷ st) (placed l.rest);
  limit : length l.locals.items ≤ 64;
}

abbrev pub decreases-loop-left : goal.decreases-loop-left
decreases-loop-left l = 65 - length l.locals.items
