use Rattle.std.proofs.Common.{◌≡◌, ◌++◌, take, map, flat_map}
use Rattle.ir_model.specs.Plain.{global_of}
use Rattle.ir_grammar.specs.Spelling.{spell_global}
use Rattle.ir_printer.specs.Pieces.{as_bytes}
use Rattle.ir_printer.proofs.print.put_globals.Given as goal

abbrev pub invariant-loop-global : goal.invariant-loop-global
invariant-loop-global l = l.out.items ≡ l.initial.out.items ++ flat_map (spell_global as_bytes) (map global_of (take l.global-index l.globals))
