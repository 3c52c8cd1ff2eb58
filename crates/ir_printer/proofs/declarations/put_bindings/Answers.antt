use Rattle.std.proofs.Common.{arith}
use Rattle.ir_model.specs.Plain.{binding_of}
use Rattle.ir_grammar.specs.Spelling.{spell_binding}
use Rattle.ir_printer.specs.Pieces.{as_bytes}
use Rattle.ir_printer.proofs.Separated.{separated_map_step}
use Rattle.ir_printer.proofs.declarations.put_bindings.Goals as goal

pub loop-i-preserved : goal.loop-i-preserved
loop-i-preserved c =
    separated_map_step (spell_binding as_bytes) binding_of c.args.bindings.now c.loop-i.i c.index-bindings-i.result c.args.out.now.items _ _ _
    (omega arith) (cc) c.loop-i.invariant c.in_ok-put_separator.ensures c.in_ok-put_binding.ensures
