use Rattle.std.proofs.Common.{◌≡◌, ◌++◌, take, map, flat_map}
use Rattle.ir_model.specs.Plain.{binding_of}
use Rattle.ir_grammar.specs.Spelling.{spell_local}
use Rattle.ir_printer.specs.Pieces.{as_bytes}
use Rattle.ir_printer.proofs.functions.put_locals.Given as goal

abbrev pub invariant-loop-local : goal.invariant-loop-local
invariant-loop-local l = l.out.items ≡ l.initial.out.items ++ flat_map (spell_local as_bytes) (map binding_of (take l.local-index l.locals))
