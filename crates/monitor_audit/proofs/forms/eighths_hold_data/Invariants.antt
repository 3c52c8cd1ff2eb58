use Rattle.std.proofs.Common.{◌≡◌, true}
use Rattle.monitor_model.specs.RegionChecks.{eighths_hold_data}
use Rattle.monitor_audit.proofs.forms.eighths_hold_data.Given as goal

abbrev pub invariant-loop-number : goal.invariant-loop-number
invariant-loop-number l = eighths_hold_data l.image l.tables l.region l.number ≡ true
