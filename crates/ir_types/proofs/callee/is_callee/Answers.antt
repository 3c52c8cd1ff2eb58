use Rattle.std.proofs.Common.{rules}
use Rattle.ir_model.specs.declared.types.Ty as code
use Rattle.ir_model.proofs.SameTypes.{rows}
use Rattle.ir_types.proofs.callee.is_callee.Goals as goal

pub returns-then-is_row : goal.returns-then-is_row
returns-then-is_row c = search (rules, code.the_lemmas, rows)

pub returns-else-is_row : goal.returns-else-is_row
returns-else-is_row c = search (rules, code.the_lemmas, rows)
