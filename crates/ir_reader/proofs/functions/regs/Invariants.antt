use Rattle.std.proofs.Common.{◌≡◌, ◌≤◌, ◌+◌, ◌-◌, length, ◌∷◌, ◌++◌, map, flat_map, List}
use Rattle.ir_model.specs.Plain.{binding_of}
use Rattle.ir_reader.specs.Found.{finds}
use Rattle.ir_reader.specs.Machine as expected
use Rattle.ir_reader.specs.Machine.{Symbol, fault}
use Rattle.ir_reader.specs.Scan.{placed}
use Rattle.ir_grammar.specs.Spelling.{spell_reg}
use Rattle.ir_reader.specs.Spelling.{as_found}
use Rattle.ir_reader.proofs.functions.regs.Given as goal

abbrev pub invariant-loop-left : goal.invariant-loop-left
invariant-loop-left l = record {
  spelled : finds (placed l.text) ≡ flat_map (spell_reg as_found) (map binding_of l.regs.items) ++ finds (placed l.rest);
  passed : (st : List Symbol) → fault (expected.Regs l.params ∷ st) (placed l.text) ≡ fault (expected.Regs (l.params + length l.regs.items) ∷ st) (placed l.rest);
  limit : l.params + length l.regs.items ≤ 120;
}

abbrev pub decreases-loop-left : goal.decreases-loop-left
decreases-loop-left l = 121 - length l.regs.items
