use Rattle.std.proofs.Common.{◌≡◌, ◌<◌, ◌≤◌, ◌-◌, length, ◌∷◌, ◌++◌, map, List, None}
use Rattle.ir_model.specs.Plain.{binding_of}
use Rattle.ir_model.specs.declared.token.Mark.TheVariants as mark
use Rattle.ir_reader.specs.Found.{finds}
use Rattle.ir_reader.specs.Machine as expected
use Rattle.ir_reader.specs.Machine.{Symbol, fault}
use Rattle.ir_reader.specs.Scan.{placed}
use Rattle.ir_grammar.specs.Spelling.{separated, spell_binding}
use Rattle.ir_reader.specs.Spelling.{as_found}
use Rattle.ir_reader.proofs.bindings.fields.Given as goal

abbrev pub invariant-loop-behind : goal.invariant-loop-behind
invariant-loop-behind l = record {
  spelled : finds (placed l.text) ≡ separated as_found (spell_binding as_found) (map binding_of l.fields.items) ++ finds (placed l.rest);
  passed : (st : List Symbol) → fault (expected.Word None ∷ expected.Mk mark.Colon ∷ expected.Ty None 0 ∷ expected.MoreFields 1 ∷ st) (placed l.text) ≡ fault (expected.MoreFields (length l.fields.items) ∷ st) (placed l.rest);
  some : 0 < length l.fields.items;
  limit : length l.fields.items ≤ 64;
}

abbrev pub decreases-loop-behind : goal.decreases-loop-behind
decreases-loop-behind l = 65 - length l.fields.items
