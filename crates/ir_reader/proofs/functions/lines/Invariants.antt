use Rattle.std.proofs.Common.{◌≡◌, ◌≤◌, ◌+◌, ◌-◌, ℕ, length, ◌∷◌, ◌++◌, flat_map, List}
use Rattle.ir_reader.specs.Found.{finds}
use Rattle.ir_reader.specs.Machine as expected
use Rattle.ir_reader.specs.Machine.{Symbol, fault}
use Rattle.ir_reader.specs.Scan.{placed}
use Rattle.ir_grammar.specs.Spelling.{spell_inst}
use Rattle.ir_reader.specs.Spelling.{as_found}
use Rattle.ir_reader.proofs.functions.lines.Given as goal

abbrev pub invariant-loop-insts : goal.invariant-loop-insts
invariant-loop-insts l = record {
  spelled : finds (placed l.text) ≡ flat_map (spell_inst as_found) l.insts.items ++ finds (placed l.rest);
  passed : (k : ℕ) (st : List Symbol) → fault (expected.Insts k l.before ∷ st) (placed l.text) ≡ fault (expected.Insts k (l.before + length l.insts.items) ∷ st) (placed l.rest);
  limit : l.before + length l.insts.items ≤ 16384;
}

abbrev pub decreases-loop-insts : goal.decreases-loop-insts
decreases-loop-insts l = 16385 - length l.insts.items
