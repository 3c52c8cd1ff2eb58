use Rattle.std.proofs.Common.{◌≡◌, ◌++◌, take, flat_map}
use Rattle.ir_grammar.specs.Spelling.{spell_inst}
use Rattle.ir_printer.specs.Pieces.{as_bytes}
use Rattle.ir_printer.proofs.functions.put_insts.Given as goal

abbrev pub invariant-loop-inst : goal.invariant-loop-inst
invariant-loop-inst l = l.out.items ≡ l.initial.out.items ++ flat_map (spell_inst as_bytes) (take l.inst-index l.insts)
