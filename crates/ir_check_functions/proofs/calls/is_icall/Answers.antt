use Rattle.std.proofs.Common.{rules}
use Rattle.ir_model.specs.declared.types.Ty as code
use Rattle.ir_model.proofs.SameTypes.{rows}
use Rattle.ir_check_functions.proofs.calls.is_icall.Goals as goal

pub returns-then-fit_types : goal.returns-then-fit_types
returns-then-fit_types c = search (rules, code.the_lemmas, rows)

pub returns-else-fit_types : goal.returns-else-fit_types
returns-else-fit_types c = search (rules, code.the_lemmas, rows)
