use Rattle.plan_report.proofs.Exact.{undeclared_ranges_are_exact}
use Rattle.plan_report.proofs.laws.undeclared_ranges_are_exact.Goals as goal

pub returns : goal.returns
returns c = undeclared_ranges_are_exact
