use Rattle.std.proofs.Common.{◌≡◌, ◌++◌, take, map, flat_map}
use Rattle.ir_model.specs.Plain.{struct_of}
use Rattle.ir_grammar.specs.Spelling.{spell_struct}
use Rattle.ir_printer.specs.Pieces.{as_bytes}
use Rattle.ir_printer.proofs.print.put_structs.Given as goal

abbrev pub invariant-loop-decl : goal.invariant-loop-decl
invariant-loop-decl l = l.out.items ≡ l.initial.out.items ++ flat_map (spell_struct as_bytes) (map struct_of (take l.decl-index l.structs))
