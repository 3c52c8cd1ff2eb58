use Rattle.std.proofs.Common.{◌≡◌, ◌++◌, take, map}
use Rattle.ir_model.specs.Plain.{binding_of}
use Rattle.ir_grammar.specs.Spelling.{separated, spell_binding}
use Rattle.ir_printer.specs.Pieces.{as_bytes}
use Rattle.ir_printer.proofs.declarations.put_bindings.Given as goal

abbrev pub invariant-loop-i : goal.invariant-loop-i
invariant-loop-i l = l.out.items ≡ l.initial.out.items ++ separated as_bytes (spell_binding as_bytes) (map binding_of (take l.i l.bindings))
