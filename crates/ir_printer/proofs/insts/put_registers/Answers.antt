use Rattle.std.proofs.Common.{arith}
use Rattle.ir_grammar.specs.Spelling.{spell_word}
use Rattle.ir_printer.specs.Pieces.{as_bytes}
use Rattle.ir_printer.proofs.Separated.{separated_step}
use Rattle.ir_printer.proofs.insts.put_registers.Goals as goal

pub loop-i-preserved : goal.loop-i-preserved
loop-i-preserved c =
    separated_step (spell_word as_bytes) c.args.registers.now c.loop-i.i c.index-registers-i.result c.args.out.now.items _ _ _
    (omega arith) (cc) c.loop-i.invariant c.in_ok-put_separator.ensures c.in_ok-put_word.ensures
