use Rattle.std.proofs.Common.{◌≡◌, ◌++◌, take, map}
use Rattle.ir_model.specs.Types.{type_of}
use Rattle.ir_grammar.specs.Spelling.{separated, spell_type}
use Rattle.ir_printer.specs.Pieces.{as_bytes}
use Rattle.ir_printer.proofs.types.+types.Given as goal

abbrev pub invariant-put_row-loop-i : goal.invariant-put_row-loop-i
invariant-put_row-loop-i l = l.out.items ≡ l.initial.out.items ++ separated as_bytes (spell_type as_bytes) (map type_of (take l.i l.types))
