use Rattle.std.proofs.Common.{rules, arith, sym}
use Rattle.ir_model.specs.declared.types.Ty as code
use Rattle.ir_model.proofs.SameTypes.{rows}
use Rattle.ir_types.proofs.RowSteps.{other_count, row_end}
use Rattle.ir_types.proofs.equal.+equal.Goals as goal

pub is_same-returns-then-is_same_row : goal.is_same-returns-then-is_same_row
is_same-returns-then-is_same_row t c = search (rules, code.the_lemmas, rows)

pub is_same-returns-else-is_same_row : goal.is_same-returns-else-is_same_row
is_same-returns-else-is_same_row t c = search (rules, code.the_lemmas, rows)

pub is_same_row-returns-then-a-b : goal.is_same_row-returns-then-a-b
is_same_row-returns-then-a-b t c = sym (other_count c.args.a.now c.args.b.now c.if-a-b.true)

pub is_same_row-returns : goal.is_same_row-returns
is_same_row-returns t c = row_end c.args.a.now c.args.b.now c.loop-i.i (omega arith) (omega arith) c.loop-i.invariant
