use Rattle.std.proofs.Common.{◌≡◌, ◌≤◌, ◌-◌, length, ◌∷◌, ◌++◌, flat_map, List}
use Rattle.ir_reader.specs.Found.{finds}
use Rattle.ir_reader.specs.Machine as expected
use Rattle.ir_reader.specs.Machine.{Symbol, fault}
use Rattle.ir_reader.specs.Scan.{placed}
use Rattle.ir_grammar.specs.Spelling.{spell_block}
use Rattle.ir_reader.specs.Spelling.{as_found}
use Rattle.ir_reader.proofs.functions.blocks.Given as goal

abbrev pub invariant-loop-blocks : goal.invariant-loop-blocks
invariant-loop-blocks l = record {
  spelled : finds (placed l.text) ≡ flat_map (spell_block as_found) l.blocks.items ++ finds (placed l.rest);
  passed : (st : List Symbol) → fault (expected.First 0 0 ∷ st) (placed l.text) ≡ fault (expected.First (length l.blocks.items) l.instructions ∷ st) (placed l.rest);
  limit : length l.blocks.items ≤ 1024;
  instructions : l.instructions ≤ 16384;
}

abbrev pub decreases-loop-blocks : goal.decreases-loop-blocks
decreases-loop-blocks l = 1025 - length l.blocks.items
