use Rattle.std.proofs.Common.{length}
use Rattle.plan_report.proofs.naming.+func_in.Given as goal

abbrev pub decreases-func_in : goal.decreases-func_in
decreases-func_in l = length l.files.now
