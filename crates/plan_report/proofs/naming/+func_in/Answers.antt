use Rattle.std.proofs.Common.{◌<◌, length, subst, arith}
use Rattle.plan_report.proofs.Named.{first_of_files}
use Rattle.plan_report.proofs.naming.+func_in.Goals as goal

pub returns-then-number-funcs : goal.returns-then-number-funcs
returns-then-number-funcs _ c = first_of_files c.args.files.now c.file-item.result c.args.number c.index-funcs-number.result (omega arith) (cc) (subst (λ fs. c.args.number < length fs) c.as_slice-funcs.ensures c.if-number-funcs.true) (cc)
