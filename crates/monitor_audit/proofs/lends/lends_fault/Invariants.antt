use Rattle.std.proofs.Common.{◌≡◌, ◌+◌, ◌*◌, drop}
use Rattle.monitor_model.specs.Layout.{lends_at}
use Rattle.monitor_model.specs.Checks.{each_record, is_lend}
use Rattle.monitor_audit.proofs.lends.lends_fault.Given as goal

-- what is left decides
abbrev pub invariant-loop-size : goal.invariant-loop-size
invariant-loop-size l = record { left : each_record is_lend l.at 4 (drop l.size-index l.size-items) ≡ each_record is_lend (lends_at l.tables) 4 l.size-items; place : l.at ≡ lends_at l.tables + 4 * l.size-index }
