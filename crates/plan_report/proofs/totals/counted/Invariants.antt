use Rattle.std.proofs.Common.{◌≡◌, length, filter, take}
use Rattle.plan_model.specs.Crossing.{crosses, target_count}
use Rattle.plan_report.proofs.totals.counted.Given as goal

abbrev pub invariant-loop-i : goal.invariant-loop-i
invariant-loop-i l = (l.counts.sites ≡ length (filter (crosses l.groups) (take l.i l.calls))) × (l.counts.targets ≡ target_count (filter (crosses l.groups) (take l.i l.calls)))
