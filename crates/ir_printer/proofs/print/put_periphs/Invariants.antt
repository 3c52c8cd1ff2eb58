use Rattle.std.proofs.Common.{◌≡◌, ◌++◌, take, flat_map}
use Rattle.ir_grammar.specs.Spelling.{spell_periph}
use Rattle.ir_printer.specs.Pieces.{as_bytes}
use Rattle.ir_printer.proofs.print.put_periphs.Given as goal

abbrev pub invariant-loop-periph : goal.invariant-loop-periph
invariant-loop-periph l = l.out.items ≡ l.initial.out.items ++ flat_map (spell_periph as_bytes) (take l.periph-index l.periphs)
