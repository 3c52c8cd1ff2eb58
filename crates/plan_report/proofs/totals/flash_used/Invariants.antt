use Rattle.std.proofs.Common.{◌≡◌, ◌+◌, sum_by, take}
use Rattle.plan_model.specs.declared.plan.Spot.{Spot}
use Rattle.plan_report.proofs.totals.flash_used.Given as goal

abbrev pub invariant-loop-i : goal.invariant-loop-i
invariant-loop-i l = l.bytes ≡ l.plan.tables.size + sum_by (λ (s : Spot). s.size) (take l.i l.plan.code)
