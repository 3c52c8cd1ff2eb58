use Rattle.std.proofs.Common.{◌≡◌, ◌++◌, take, map, flat_map}
use Rattle.ir_model.specs.Plain.{func_of}
use Rattle.ir_grammar.specs.Spelling.{spell_func}
use Rattle.ir_printer.specs.Pieces.{as_bytes}
use Rattle.ir_printer.proofs.print.put_funcs.Given as goal

abbrev pub invariant-loop-func : goal.invariant-loop-func
invariant-loop-func l = l.out.items ≡ l.initial.out.items ++ flat_map (spell_func as_bytes) (map func_of (take l.func-index l.funcs))
