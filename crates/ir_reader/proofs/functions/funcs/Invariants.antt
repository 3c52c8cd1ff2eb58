use Rattle.std.proofs.Common.{◌≡◌, ◌≤◌, ◌+◌, ◌-◌, ℕ, length, ◌∷◌, ◌++◌, map, flat_map, List}
use Rattle.ir_model.specs.Plain.{func_of}
use Rattle.ir_reader.specs.Found.{finds}
use Rattle.ir_reader.specs.Machine as expected
use Rattle.ir_reader.specs.Machine.{Symbol, fault}
use Rattle.ir_reader.specs.Parts.{HasBlocks}
use Rattle.ir_reader.specs.Scan.{placed}
use Rattle.ir_grammar.specs.Spelling.{spell_func}
use Rattle.ir_reader.specs.Spelling.{as_found}
use Rattle.ir_reader.proofs.functions.funcs.Given as goal

abbrev pub invariant-loop-left : goal.invariant-loop-left
invariant-loop-left l = record {
  spelled : finds (placed l.text) ≡ flat_map (spell_func as_found) (map func_of l.funcs.items) ++ finds (placed l.rest);
  passed : (k : ℕ) (st : List Symbol) → fault (expected.Funcs k l.before ∷ st) (placed l.text) ≡ fault (expected.Funcs k (l.before + length l.funcs.items) ∷ st) (placed l.rest);
  limit : l.before + length l.funcs.items ≤ 1024;
  blocks : HasBlocks (map func_of l.funcs.items);
}

abbrev pub decreases-loop-left : goal.decreases-loop-left
decreases-loop-left l = 1025 - length l.funcs.items
