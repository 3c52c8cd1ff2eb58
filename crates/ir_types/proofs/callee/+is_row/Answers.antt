use Rattle.std.proofs.Common.{arith}
use Rattle.ir_types.proofs.callee.+is_row.Goals as goal
use Rattle.ir_model.proofs.Rows.{more_types}

pub returns-in-len1-up-types : goal.returns-in-len1-up-types
returns-in-len1-up-types t c = more_types c.args.params.now c.args.types.now (omega arith) (omega arith)
