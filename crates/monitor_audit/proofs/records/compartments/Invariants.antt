use Rattle.std.proofs.Common.{◌≡◌, ◌+◌, ◌-◌, ◌*◌, ◌++◌}
use Rattle.monitor_model.specs.FromFlash.{records, comp_record_at}
use Rattle.monitor_audit.proofs.records.compartments.Given as goal

-- what was made and what is left are the whole
abbrev pub invariant-loop-number : goal.invariant-loop-number
invariant-loop-number l =
    l.all.items ++ records (comp_record_at l.bytes l.slots) (8 * l.slots + 16) (l.count - l.number) (l.start + (8 * l.slots + 16) * l.number)
    ≡ records (comp_record_at l.bytes l.slots) (8 * l.slots + 16) l.count l.start
