use Rattle.std.proofs.Common.{◌≡◌, ◌+◌, ◌-◌, ◌*◌, ◌++◌}
use Rattle.monitor_model.specs.FromFlash.{records}
use Rattle.monitor_audit.proofs.records.all_read.Given as goal

-- what was made and what is left are the whole
abbrev pub invariant-loop-number : goal.invariant-loop-number
invariant-loop-number g l =
    let t = g.T.Stored in
    l.all.items ++ records (t.stands_at l.bytes) t.width (l.count - l.number) (l.start + t.width * l.number) ≡ records (t.stands_at l.bytes) t.width l.count l.start
