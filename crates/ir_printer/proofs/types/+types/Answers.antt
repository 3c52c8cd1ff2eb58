use Rattle.std.proofs.Common.{arith, ap, ◌∙◌}
use Rattle.std.proofs.lemmas.Grind.{common_steps}
use Rattle.std.proofs.lemmas.Result.{on_ok_weaker}
use Rattle.ir_model.specs.declared.types.Ty as code
use Rattle.ir_model.specs.Types.{type_of}
use Rattle.ir_grammar.specs.Spelling.{spell_type}
use Rattle.ir_printer.specs.Pieces.{as_bytes}
use Rattle.ir_printer.proofs.Rows.{callee_text, row_end}
use Rattle.ir_printer.proofs.Separated.{separated_map_step}
use Rattle.ir_printer.proofs.types.+types.Goals as goal

pub put_type-returns-in_ok-put_row-in-Callee : goal.put_type-returns-in_ok-put_row-in-Callee
put_type-returns-in_ok-put_row-in-Callee t c =
    let e = ap (λ (u : code.Ty). spell_type as_bytes (type_of u)) c.in-Callee.is ∙ callee_text c.in-Callee.signature in
    grind (arith, common_steps, e)

pub put_row-loop-i-preserved : goal.put_row-loop-i-preserved
put_row-loop-i-preserved t c =
    separated_map_step (spell_type as_bytes) type_of c.args.types.now c.loop-i.i c.index-types-i.result c.args.out.now.items _ _ _
    (omega arith) (cc) c.loop-i.invariant c.in_ok-put_separator.ensures c.in_ok-put_type.ensures

pub put_row-returns : goal.put_row-returns
put_row-returns t c =
    on_ok_weaker c.put_mark.result (row_end c.args.types.now c.loop-i.i c.args.out.now.items _ _ (omega arith) c.loop-i.invariant) c.put_mark.ensures
