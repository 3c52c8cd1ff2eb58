use Rattle.std.proofs.Common.{rules}
use Rattle.ir_model.specs.declared.types.Ty as code
use Rattle.ir_model.proofs.SameTypes.{rows}
use Rattle.ir_reader.proofs.types.callee.Goals as goal

pub returns : goal.returns
returns c = search (rules, code.the_lemmas, rows)
